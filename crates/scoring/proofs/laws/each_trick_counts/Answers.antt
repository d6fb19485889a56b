use Rattle.scoring.proofs.ScoreLemmas.{one_more_trick}
use Rattle.scoring.proofs.laws.each_trick_counts.Goals as goal

pub returns : goal.returns
returns c = one_more_trick
