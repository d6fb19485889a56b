use Rattle.hall_threads.proofs.HallLemmas.{hall_none, hall_on}
use Rattle.hall_threads.proofs.hall.serve_events.Goals as goal

pub loop-event-init : goal.loop-event-init
loop-event-init g c = hall_none _ _ _

pub loop-event-preserved : goal.loop-event-preserved
loop-event-preserved g c = hall_on c.loop-event.invariant c.serve_event.ensures
