use Rattle.double_dummy_laws.proofs.SureTrickLemmas.{runners_found, runners_take}
use Rattle.double_dummy_laws.proofs.laws.runners_take_tricks.Goals as goal

pub returns-clause-tricks : goal.returns-clause-tricks
returns-clause-tricks c = runners_take

pub returns-clause-found : goal.returns-clause-found
returns-clause-found c = runners_found
