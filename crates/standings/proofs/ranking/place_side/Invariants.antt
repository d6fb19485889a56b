use Rattle.std.proofs.Common.{◌≡◌, ◌+◌, ◌-◌, ◌++◌, List, map}
use Rattle.movement.specs.Movement.{most_tables}
use Rattle.table_terms.specs.declared.pair.Pair.{Pair}
use Rattle.standings.specs.Ranking.{standing_of, pairs_on, ranked}
use Rattle.standings.proofs.ranking.place_side.Given as goal

abbrev pub invariant-loop-before : goal.invariant-loop-before
invariant-loop-before l =
    (others : List Pair) → l.initial.standings.items ≡ ranked (map (standing_of l.earnings) others) →
    l.standings.items ≡ ranked
    (map (standing_of l.earnings) (pairs_on l.movement l.side (most_tables - l.before + 1) l.before ++ others))
