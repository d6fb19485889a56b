use Rattle.std.proofs.Common.{◌∙◌}
use Rattle.std.proofs.lemmas.Nat.{or_lt}
use Rattle.small_sets.specs.Numbers.{numbers_of_both}
use Rattle.small_sets.proofs.NumberBitsLemmas.{numbers_of_bits-or}
use Rattle.small_sets.proofs.number_set.NumberSet.union.Goals as goal

pub invariant_of-result : goal.invariant_of-result
invariant_of-result g c = (
  c.self.invariant.0,
  or_lt g.row.MOST c.self.inside.bits c.other.inside.bits c.self.invariant.1 c.other.invariant.1,
)

pub returns : goal.returns
returns g c =
    numbers_of_bits-or g.row.MOST c.self.inside.bits c.other.inside.bits
    ∙ (λ i. numbers_of_both g.row.MOST (c.self.view_is i) (c.other.view_is i))
