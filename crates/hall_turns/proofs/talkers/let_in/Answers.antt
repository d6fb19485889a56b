use Rattle.hall_turns.proofs.ServingLemmas.{serves_admission}
use Rattle.hall_turns.proofs.talkers.let_in.Goals as goal

pub returns : goal.returns
returns g c =
    serves_admission c.admit.result _ _ _ c.socket_of-socket.result c.socket_of-socket.ensures c.admit.ensures.free
    c.admit.ensures.comes c.admit.ensures.others c.admit.ensures.none
