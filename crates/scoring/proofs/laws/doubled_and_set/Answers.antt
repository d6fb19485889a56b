use Rattle.scoring.proofs.StakeLemmas.{set-doubled, set-redoubled}
use Rattle.scoring.proofs.laws.doubled_and_set.Goals as goal

pub returns-clause-doubled : goal.returns-clause-doubled
returns-clause-doubled c = set-doubled

pub returns-clause-redoubled : goal.returns-clause-redoubled
returns-clause-redoubled c = set-redoubled
