use Rattle.std.proofs.Common.{inr}
use Rattle.std.specs.Prelude.{string_bytes}
use Rattle.std.proofs.KnownBytes.{Appends-nil}
use Rattle.called_program.proofs.auditing.status_of_audit.Goals as goal

pub returns-in-Ok-write_text-clause-silent : goal.returns-in-Ok-write_text-clause-silent
returns-in-Ok-write_text-clause-silent g c = λ _. Appends-nil (g.E.Write.contents c.args.errors.now)

pub returns-in-Ok-clause-part : goal.returns-in-Ok-clause-part
returns-in-Ok-clause-part g c = λ _.
    inr (string_bytes c.in-Ok.audit, c.in-Ok.ensures, rw c.as_bytes.ensures.value at c.in-Err-write_text.ensures.part)
