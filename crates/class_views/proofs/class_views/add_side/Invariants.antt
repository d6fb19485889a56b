use Rattle.std.proofs.Common.{◌≡◌, ◌++◌, map}
use Rattle.standings.specs.Ranking.{pairs_on}
use Rattle.class_views.specs.Totals.{total_for}
use Rattle.class_views.proofs.class_views.add_side.Given as goal

abbrev pub invariant-loop-before : goal.invariant-loop-before
invariant-loop-before l =
    l.standings.items ≡ l.initial.standings.items ++ map (total_for l.views l.class)
    (pairs_on l.movement l.side 1 l.before)
