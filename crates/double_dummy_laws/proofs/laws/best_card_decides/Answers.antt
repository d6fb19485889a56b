use Rattle.double_dummy_laws.proofs.DoubleDummyLemmas.{best_card, nothing_left}
use Rattle.double_dummy_laws.proofs.laws.best_card_decides.Goals as goal

pub returns-clause-some : goal.returns-clause-some
returns-clause-some c = best_card

pub returns-clause-none : goal.returns-clause-none
returns-clause-none c = nothing_left
