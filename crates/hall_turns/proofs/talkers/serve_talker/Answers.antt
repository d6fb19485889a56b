use Rattle.hall_turns.proofs.ServingLemmas.{serves_none, serves_on}
use Rattle.hall_turns.proofs.talkers.serve_talker.Goals as goal

pub returns-then-not-begin : goal.returns-then-not-begin
returns-then-not-begin g c = serves_none _ _

pub returns-in-Some : goal.returns-in-Some
returns-in-Some g c = serves_on c.take_turns-next.ensures (rw c.end_after.ensures at c.end.ensures)

pub returns-in_default : goal.returns-in_default
returns-in_default g c = rw c.end_after.ensures c.take_turns-next.ensures
