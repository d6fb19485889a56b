use Rattle.hall_turns.proofs.ServingLemmas.{serves_departure}
use Rattle.hall_turns.proofs.talkers.end.Goals as goal

pub returns : goal.returns
returns g c = serves_departure _ _ _ _ c.dismiss.ensures.goes c.dismiss.ensures.others
