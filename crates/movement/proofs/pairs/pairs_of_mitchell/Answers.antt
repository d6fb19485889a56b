use Rattle.std.proofs.Common.{ℕ, Bool, List, ◌+◌, sym, ap, ◌∙◌}
use Rattle.small_sets.specs.Numbers.{with_number}
use Rattle.movement.specs.Movement.{most_tables}
use Rattle.movement.specs.Listed.{pair_numbered}
use Rattle.movement.specs.Mitchell.{is_pair_of_mitchell}
use Rattle.movement.proofs.GrowLemmas.{one_passes, one_fails}
use Rattle.movement.proofs.pairs.pairs_of_mitchell.Goals as goal
use Rattle.movement.proofs.pairs.pairs_of_mitchell.Goals.{then-is_pair_of_mitchell, else-is_pair_of_mitchell}

pub loop-below-preserved : goal.loop-below-preserved
loop-below-preserved c =
    let test : ℕ → Bool = λ number. is_pair_of_mitchell c.args.section (pair_numbered c.args.side number) in
    let below : ℕ = c.loop-below.below in
    elim c.if-is_pair_of_mitchell.branch [
      | then-is_pair_of_mitchell w ↦
          w.numbers-is
          ∙ (w.insert.ensures
          ∙ (ap (λ (numbers : List ℕ). with_number most_tables numbers (below + 1)) c.loop-below.invariant
          ∙ one_passes most_tables test below (sym c.is_pair_of_mitchell.ensures ∙ w.if-is_pair_of_mitchell.true)))
      | else-is_pair_of_mitchell w ↦
          w.numbers-is
          ∙ (c.loop-below.invariant
          ∙ one_fails most_tables test below (sym c.is_pair_of_mitchell.ensures ∙ w.if-is_pair_of_mitchell.false))
    ]
