use Rattle.double_dummy_laws.proofs.SureTrickLemmas.{long_found, long_take}
use Rattle.double_dummy_laws.proofs.laws.long_trumps_take_tricks.Goals as goal

pub returns-clause-tricks : goal.returns-clause-tricks
returns-clause-tricks c = long_take

pub returns-clause-found : goal.returns-clause-found
returns-clause-found c = long_found
