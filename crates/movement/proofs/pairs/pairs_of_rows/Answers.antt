use Rattle.std.proofs.Common.{ℕ, Bool, List, ◌+◌, sym, ap, ◌∙◌}
use Rattle.small_sets.specs.Numbers.{with_number}
use Rattle.movement.specs.Movement.{most_tables}
use Rattle.movement.specs.Listed.{plays_in, pair_numbered}
use Rattle.movement.proofs.GrowLemmas.{one_passes, one_fails}
use Rattle.movement.proofs.pairs.pairs_of_rows.Goals as goal
use Rattle.movement.proofs.pairs.pairs_of_rows.Goals.{then-plays_in, else-plays_in}

pub loop-below-preserved : goal.loop-below-preserved
loop-below-preserved c =
    let test : ℕ → Bool = λ number. plays_in c.args.absent c.args.rows.now (pair_numbered c.args.side number) in
    let below : ℕ = c.loop-below.below in
    elim c.if-plays_in.branch [
      | then-plays_in w ↦
          w.numbers-is
          ∙ (w.insert.ensures
          ∙ (ap (λ (numbers : List ℕ). with_number most_tables numbers (below + 1)) c.loop-below.invariant
          ∙ one_passes most_tables test below (sym c.plays_in.ensures ∙ w.if-plays_in.true)))
      | else-plays_in w ↦
          w.numbers-is
          ∙ (c.loop-below.invariant
          ∙ one_fails most_tables test below (sym c.plays_in.ensures ∙ w.if-plays_in.false))
    ]
