use Rattle.hall_turns.proofs.ServingLemmas.{serves_none, serves_on}
use Rattle.hall_turns.proofs.talkers.end_late.Goals as goal

pub loop-key-init : goal.loop-key-init
loop-key-init g c = serves_none _ _

pub loop-key-preserved : goal.loop-key-preserved
loop-key-preserved g c = serves_on c.loop-key.invariant c.see_to.ensures
