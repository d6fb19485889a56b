use Rattle.double_dummy_laws.proofs.NeighbourLemmas.{neighbours_worth, run_worth}
use Rattle.double_dummy_laws.proofs.laws.equal_cards.Goals as goal

pub returns-clause-neighbours : goal.returns-clause-neighbours
returns-clause-neighbours c = neighbours_worth

pub returns-clause-run : goal.returns-clause-run
returns-clause-run c = run_worth
