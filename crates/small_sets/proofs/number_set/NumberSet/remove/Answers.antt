use Rattle.std.proofs.Common.{ap, ◌∙◌}
use Rattle.std.specs.Int.{w128}
use Rattle.small_sets.specs.Numbers.{without_number}
use Rattle.small_sets.proofs.NumberBitsLemmas.{numbers_of_bits-clear, clear_below}
use Rattle.small_sets.proofs.number_set.NumberSet.remove.Goals as goal

pub invariant_of-self : goal.invariant_of-self
invariant_of-self g c = (
  c.self.invariant.0,
  clear_below g.row.MOST c.self.inside.bits _ c.self.invariant.1,
)

pub returns : goal.returns
returns g c =
    numbers_of_bits-clear w128 g.row.MOST c.self.inside.bits c.args.number c.self.invariant.0 c.requires.from
    c.requires.to
    ∙ ap (λ numbers. without_number g.row.MOST numbers c.args.number) c.self.view_is
