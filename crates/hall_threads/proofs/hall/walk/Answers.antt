use Rattle.hall_threads.proofs.AskersLemmas.{leaves_same}
use Rattle.hall_threads.proofs.HallLemmas.{hall_serves, hall_waits, hall_on}
use Rattle.hall_threads.proofs.hall.walk.Goals as goal

pub returns-then-is_walk : goal.returns-then-is_walk
returns-then-is_walk g c =
    hall_on (hall_waits _ _ (leaves_same _ _ c.is_walk.ensures)) (hall_serves c.end_late-then-is_walk.ensures c.end_late.ensures)

pub returns-else-is_walk : goal.returns-else-is_walk
returns-else-is_walk g c = hall_waits _ _ (leaves_same _ _ c.is_walk.ensures)
