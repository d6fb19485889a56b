use Rattle.double_dummy_laws.proofs.SureTrickLemmas.{winning_found, winning_takes}
use Rattle.double_dummy_laws.proofs.laws.winning_card_takes_the_trick.Goals as goal

pub returns-clause-tricks : goal.returns-clause-tricks
returns-clause-tricks c = winning_takes

pub returns-clause-found : goal.returns-clause-found
returns-clause-found c = winning_found
