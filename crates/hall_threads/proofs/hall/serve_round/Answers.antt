use Rattle.hall_threads.proofs.AskersLemmas.{leaves_same, leaves_none}
use Rattle.hall_threads.proofs.HallLemmas.{hall_serves, hall_waits, hall_on}
use Rattle.hall_threads.proofs.hall.serve_round.Goals as goal

pub returns : goal.returns
returns g c =
    let listed = hall_on (hall_waits _ _ (leaves_same _ _ c.terms-terms.ensures)) (hall_serves c.serve_listed.ensures (leaves_none _)) in
    let ready = hall_on c.serve_askers.ensures c.serve_events.ensures in
    let rest = hall_on (hall_on (hall_waits _ _ c.take_in.ensures) c.walk.ensures) (hall_waits _ _ (leaves_same _ _ c.count.ensures)) in
    hall_on (hall_waits _ _ (leaves_same _ _ c.wait.ensures)) (hall_on listed (hall_on ready rest))
