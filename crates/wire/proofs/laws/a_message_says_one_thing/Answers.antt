use Rattle.wire.proofs.GrammarLemmas.{one_said, not_refused}
use Rattle.wire.proofs.laws.a_message_says_one_thing.Goals as goal

pub returns-clause-one : goal.returns-clause-one
returns-clause-one c = one_said

pub returns-clause-no_fault : goal.returns-clause-no_fault
returns-clause-no_fault c = not_refused
