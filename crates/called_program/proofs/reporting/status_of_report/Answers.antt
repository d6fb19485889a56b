use Rattle.std.proofs.Common.{inr}
use Rattle.called_program.proofs.reporting.status_of_report.Goals as goal

pub returns-in-Ok-clause-part : goal.returns-in-Ok-clause-part
returns-in-Ok-clause-part g c = λ _.
    inr (c.in-Ok.text.items, c.in-Ok.ensures, rw c.as_slice.ensures.value at c.in-Err-write_text.ensures.part)
