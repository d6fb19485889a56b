use Rattle.scoring.proofs.BoardLemmas.{units-lt, units-same}
use Rattle.scoring.proofs.laws.better_scores_get_more.Goals as goal

pub returns-clause-more : goal.returns-clause-more
returns-clause-more c = units-lt

pub returns-clause-same : goal.returns-clause-same
returns-clause-same c = units-same
