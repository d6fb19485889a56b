use Rattle.called_program.proofs.serving.status_of_kept.Goals as goal

pub returns-in-Err-clause-unserved : goal.returns-in-Err-clause-unserved
returns-in-Err-clause-unserved g c = λ failed. (
  g.E.Write.contents c.serve_kept.new.errors,
  c.serve_kept.ensures,
  c.status_of_serving_fault.ensures.why failed,
)
