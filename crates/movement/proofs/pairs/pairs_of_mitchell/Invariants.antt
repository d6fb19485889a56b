use Rattle.std.proofs.Common.{◌≡◌}
use Rattle.movement.specs.Movement.{most_tables}
use Rattle.movement.specs.Listed.{pair_numbered}
use Rattle.movement.specs.Mitchell.{is_pair_of_mitchell}
use Rattle.movement.proofs.GrowLemmas.{up_to}
use Rattle.movement.proofs.pairs.pairs_of_mitchell.Given as goal

abbrev pub invariant-loop-below : goal.invariant-loop-below
invariant-loop-below l =
    l.numbers ≡ up_to most_tables (λ number. is_pair_of_mitchell l.section (pair_numbered l.fn.side number)) l.below
