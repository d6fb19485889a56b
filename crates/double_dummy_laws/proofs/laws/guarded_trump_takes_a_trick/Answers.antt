use Rattle.double_dummy_laws.proofs.SureTrickLemmas.{guarded_found, guarded_takes}
use Rattle.double_dummy_laws.proofs.laws.guarded_trump_takes_a_trick.Goals as goal

pub returns-clause-tricks : goal.returns-clause-tricks
returns-clause-tricks c = guarded_takes

pub returns-clause-found : goal.returns-clause-found
returns-clause-found c = guarded_found
