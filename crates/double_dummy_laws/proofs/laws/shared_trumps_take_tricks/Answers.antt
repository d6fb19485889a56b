use Rattle.double_dummy_laws.proofs.SharedTrumpNameLemmas.{shared_found, shared_take}
use Rattle.double_dummy_laws.proofs.laws.shared_trumps_take_tricks.Goals as goal

pub returns-clause-tricks : goal.returns-clause-tricks
returns-clause-tricks c = shared_take

pub returns-clause-found : goal.returns-clause-found
returns-clause-found c = shared_found
