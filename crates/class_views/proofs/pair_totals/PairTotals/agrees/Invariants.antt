use Rattle.std.proofs.Common.{◌≡◌, ℕ, ◌<◌, get_or}
use Rattle.scoring.specs.declared.standing.Standing.{Standing}
use Rattle.class_views.proofs.pair_totals.PairTotals.agrees.Given as goal

abbrev pub invariant-loop-place : goal.invariant-loop-place
invariant-loop-place l = (k : ℕ) (d : Standing) → k < l.place → get_or l.self k d ≡ get_or l.other k d
