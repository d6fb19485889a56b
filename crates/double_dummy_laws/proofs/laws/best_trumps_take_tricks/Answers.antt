use Rattle.double_dummy_laws.proofs.SureTrickLemmas.{trumps_found, trumps_take}
use Rattle.double_dummy_laws.proofs.laws.best_trumps_take_tricks.Goals as goal

pub returns-clause-tricks : goal.returns-clause-tricks
returns-clause-tricks c = trumps_take

pub returns-clause-found : goal.returns-clause-found
returns-clause-found c = trumps_found
