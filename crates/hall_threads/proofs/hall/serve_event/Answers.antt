use Rattle.hall_threads.proofs.AskersLemmas.{leaves_same}
use Rattle.hall_threads.proofs.HallLemmas.{hall_waits, hall_none}
use Rattle.hall_threads.proofs.hall.serve_event.Goals as goal

pub returns-in-Door : goal.returns-in-Door
returns-in-Door g c = hall_waits _ _ (leaves_same _ _ c.knock.ensures)

pub returns-else-wake : goal.returns-else-wake
returns-else-wake g c = hall_none _ _ _

pub returns-else-wake-2 : goal.returns-else-wake-2
returns-else-wake-2 g c = hall_none _ _ _
