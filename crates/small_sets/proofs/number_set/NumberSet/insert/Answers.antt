use Rattle.std.proofs.Common.{ap, ◌∙◌}
use Rattle.std.specs.Int.{w128}
use Rattle.small_sets.specs.Numbers.{with_number}
use Rattle.small_sets.proofs.NumberBitsLemmas.{numbers_of_bits-set, set_below}
use Rattle.small_sets.proofs.number_set.NumberSet.insert.Goals as goal

pub invariant_of-self : goal.invariant_of-self
invariant_of-self g c = (
  c.self.invariant.0,
  set_below w128 g.row.MOST c.self.inside.bits c.args.number c.self.invariant.0 c.requires.from c.requires.to
      c.self.invariant.1,
)

pub returns : goal.returns
returns g c =
    numbers_of_bits-set w128 g.row.MOST c.self.inside.bits c.args.number c.self.invariant.0 c.requires.from
    c.requires.to
    ∙ ap (λ numbers. with_number g.row.MOST numbers c.args.number) c.self.view_is
