use Rattle.standings.proofs.RankingLemmas.{ranked-permutation, ranked-in_order}
use Rattle.standings.proofs.laws.ranking_is_in_order.Goals as goal

pub returns-clause-once : goal.returns-clause-once
returns-clause-once c section earnings = ranked-permutation _

pub returns-clause-ordered : goal.returns-clause-ordered
returns-clause-ordered c section earnings = ranked-in_order _
