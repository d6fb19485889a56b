use Rattle.std.proofs.Common.{inr}
use Rattle.called_program.proofs.serving.status_of_unkept.Goals as goal

pub returns-in-Ok-clause-told : goal.returns-in-Ok-clause-told
returns-in-Ok-clause-told g c = λ _.
    (g.E.Write.contents c.tell_unkept.new.errors, c.tell_unkept.ensures, c.serve_session.ensures)

pub returns-in-Err-clause-unserved : goal.returns-in-Err-clause-unserved
returns-in-Err-clause-unserved g c = λ failed. (
  g.E.Write.contents c.serve_session.new.errors,
  inr (g.E.Write.contents c.tell_unkept.new.errors, c.tell_unkept.ensures, c.serve_session.ensures),
  c.status_of_serving_fault.ensures.why failed,
)
