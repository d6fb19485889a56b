use Rattle.hall_turns.proofs.ServingLemmas.{serves_none, serves_on}
use Rattle.hall_turns.proofs.talkers.take_turns.Goals as goal

pub loop-init : goal.loop-init
loop-init g c = serves_none _ _

pub loop-preserved : goal.loop-preserved
loop-preserved g c = serves_on c.loop.invariant c.take_turn-next.ensures

pub returns-then-ne : goal.returns-then-ne
returns-then-ne g c = serves_on c.loop.invariant c.take_turn-next.ensures
