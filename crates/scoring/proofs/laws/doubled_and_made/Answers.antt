use Rattle.scoring.proofs.StakeLemmas.{made-doubled, made-redoubled}
use Rattle.scoring.proofs.laws.doubled_and_made.Goals as goal

pub returns-clause-doubled : goal.returns-clause-doubled
returns-clause-doubled c = made-doubled

pub returns-clause-redoubled : goal.returns-clause-redoubled
returns-clause-redoubled c = made-redoubled
