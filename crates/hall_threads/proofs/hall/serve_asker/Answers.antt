use Rattle.hall_threads.proofs.HallLemmas.{hall_waits}
use Rattle.hall_threads.proofs.hall.serve_asker.Goals as goal

pub returns-in_default : goal.returns-in_default
returns-in_default g c = hall_waits _ _ c.in_default.ensures.none
