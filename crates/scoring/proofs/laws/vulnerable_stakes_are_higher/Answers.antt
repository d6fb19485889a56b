use Rattle.scoring.proofs.StakeLemmas.{made-vulnerable, set-vulnerable}
use Rattle.scoring.proofs.laws.vulnerable_stakes_are_higher.Goals as goal

pub returns-clause-made : goal.returns-clause-made
returns-clause-made c = made-vulnerable

pub returns-clause-set : goal.returns-clause-set
returns-clause-set c = set-vulnerable
