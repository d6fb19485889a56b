use Rattle.std.proofs.Common.{◌≡◌, ℕ, ◌<◌, ◌≤◌, get_or, vec_len}
use Rattle.scoring.specs.declared.standing.Standing.{Standing}
use Rattle.class_views.specs.Kept.{total_with}
use Rattle.class_views.proofs.pair_totals.change.Given as goal

abbrev pub invariant-loop-place : goal.invariant-loop-place
invariant-loop-place l = record {
  each : vec_len l.standings ≡ 32;
  done : (k : ℕ) (d : Standing) → k < l.place →
      get_or l.standings.items k d ≡ total_with l.saw (get_or l.old k d) l.sees (get_or l.new k d)
      (get_or l.initial.standings.items k d);
  rest : (k : ℕ) (d : Standing) → l.place ≤ k → get_or l.standings.items k d ≡ get_or l.initial.standings.items k d;
}
