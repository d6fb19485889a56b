use Rattle.std.proofs.Common.{ℕ, ◌<◌, get_or}
use Rattle.scoring.specs.declared.standing.Standing.{Standing}
use Rattle.scoring.specs.Ranking.{RanksBefore}
use Rattle.standings.proofs.ranking.place_among.Given as goal

abbrev pub invariant-loop-place : goal.invariant-loop-place
invariant-loop-place l = (k : ℕ) (d : Standing) → k < l.place → ¬ RanksBefore l.standing (get_or l.standings k d)
