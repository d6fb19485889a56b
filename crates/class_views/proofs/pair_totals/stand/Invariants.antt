use Rattle.std.proofs.Common.{◌≡◌, ℕ, ◌<◌, get_or, vec_len}
use Rattle.scoring.specs.declared.standing.Standing.{Standing}
use Rattle.standings.specs.Ranking.{standing_of}
use Rattle.class_views.specs.Kept.{IsWithinBoard}
use Rattle.class_views.specs.Places.{pair_at}
use Rattle.class_views.proofs.pair_totals.stand.Given as goal

abbrev pub invariant-loop-place : goal.invariant-loop-place
invariant-loop-place l = record {
  each : vec_len l.standings ≡ 32;
  standings : (k : ℕ) (d : Standing) → k < l.place → get_or l.standings.items k d ≡ standing_of l.earnings (pair_at k);
  small : (k : ℕ) (d : Standing) → k < l.place → IsWithinBoard (get_or l.standings.items k d);
}
