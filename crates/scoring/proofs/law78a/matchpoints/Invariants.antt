use Rattle.std.proofs.Common.{◌≡◌, ℕ, ◌<◌, get_or, vec_len}
use Rattle.scoring.specs.Law78A.{units}
use Rattle.scoring.proofs.law78a.matchpoints.Given as goal

abbrev pub invariant-loop-score : goal.invariant-loop-score
invariant-loop-score l = record {
  counted : vec_len l.points ≡ l.score-index;
  units_so_far : (k : ℕ) → k < l.score-index → get_or l.points.items k 0 ≡ units l.scores k;
}
