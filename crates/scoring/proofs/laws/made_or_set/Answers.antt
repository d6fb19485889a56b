use Rattle.scoring.proofs.ScoreLemmas.{made_above_zero, set_below_zero}
use Rattle.scoring.proofs.laws.made_or_set.Goals as goal

pub returns-clause-made : goal.returns-clause-made
returns-clause-made c = made_above_zero

pub returns-clause-set : goal.returns-clause-set
returns-clause-set c = set_below_zero
