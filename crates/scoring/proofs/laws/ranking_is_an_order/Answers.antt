use Rattle.scoring.proofs.RankingLemmas.{ranks-total, ranks-asym, ranks-trans}
use Rattle.scoring.proofs.laws.ranking_is_an_order.Goals as goal

pub returns-clause-total : goal.returns-clause-total
returns-clause-total c = ranks-total

pub returns-clause-asymmetric : goal.returns-clause-asymmetric
returns-clause-asymmetric c = ranks-asym

pub returns-clause-transitive : goal.returns-clause-transitive
returns-clause-transitive c = ranks-trans
