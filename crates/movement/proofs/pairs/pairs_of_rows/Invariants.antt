use Rattle.std.proofs.Common.{◌≡◌}
use Rattle.movement.specs.Movement.{most_tables}
use Rattle.movement.specs.Listed.{plays_in, pair_numbered}
use Rattle.movement.proofs.GrowLemmas.{up_to}
use Rattle.movement.proofs.pairs.pairs_of_rows.Given as goal

abbrev pub invariant-loop-below : goal.invariant-loop-below
invariant-loop-below l =
    l.numbers ≡ up_to most_tables (λ number. plays_in l.fn.absent l.rows (pair_numbered l.fn.side number)) l.below
