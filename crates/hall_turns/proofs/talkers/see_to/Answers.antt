use Rattle.hall_turns.proofs.ServingLemmas.{serves_none}
use Rattle.hall_turns.proofs.talkers.see_to.Goals as goal

pub returns-in-Some : goal.returns-in-Some
returns-in-Some g c = rw c.end_by_now.ensures at c.end.ensures

pub returns-in_default : goal.returns-in_default
returns-in_default g c = rw c.end_by_now.ensures (serves_none _ _)
