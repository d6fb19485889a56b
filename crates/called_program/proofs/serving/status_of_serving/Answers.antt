use Rattle.called_program.proofs.ServingLemmas.{told_unserved}
use Rattle.called_program.proofs.serving.status_of_serving.Goals as goal

pub returns-in-Err-clause-unserved : goal.returns-in-Err-clause-unserved
returns-in-Err-clause-unserved g c = λ failed.
    told_unserved c.args.serving.now.source c.status_of_opening_fault.result (g.E.Write.contents c.args.errors.now) _
    (c.status_of_opening_fault.ensures.why failed)
