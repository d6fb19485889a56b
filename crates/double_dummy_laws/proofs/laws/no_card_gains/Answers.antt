use Rattle.double_dummy_laws.proofs.DoubleDummyLemmas.{north_south_gains_nothing, east_west_gains_nothing}
use Rattle.double_dummy_laws.proofs.laws.no_card_gains.Goals as goal

pub returns-clause-north_south : goal.returns-clause-north_south
returns-clause-north_south c = north_south_gains_nothing

pub returns-clause-east_west : goal.returns-clause-east_west
returns-clause-east_west c = east_west_gains_nothing
