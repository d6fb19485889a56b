use Rattle.std.proofs.Common.{inr}
use Rattle.std.proofs.KnownBytes.{Appends-nil}
use Rattle.called_program.proofs.serving.status_of_journal.Goals as goal

pub returns-in-Err-clause-unserved : goal.returns-in-Err-clause-unserved
returns-in-Err-clause-unserved g c = λ four. (
  g.E.Write.contents c.args.errors.now,
  inr (Appends-nil (g.E.Write.contents c.args.errors.now)),
  c.status_of_source_fault.ensures.memory four,
)
