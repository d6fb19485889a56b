use Rattle.hall_threads.proofs.HallLemmas.{hall_waits, hall_on}
use Rattle.hall_threads.proofs.AskersLemmas.{leaves_same}
use Rattle.hall_threads.proofs.hall.serve_askers.Goals as goal

pub loop-key-init : goal.loop-key-init
loop-key-init g c = hall_waits _ _ (leaves_same _ _ c.take_listed-listed.ensures)

pub loop-key-preserved : goal.loop-key-preserved
loop-key-preserved g c = hall_on c.loop-key.invariant c.serve_asker.ensures
