use Rattle.std.proofs.Common.{◌∙◌, nat_eq}
use Rattle.std.specs.Cmp.Lexicographic.{pointwise}
use Rattle.small_sets.proofs.NumberBitsLemmas.{same_words}
use Rattle.small_sets.proofs.number_set.NumberSetPartialEq.eq.Goals as goal

pub returns : goal.returns
returns g c =
    same_words g.row.MOST c.self.inside.bits c.other.inside.bits c.self.invariant.1 c.other.invariant.1
    ∙ (λ i. pointwise nat_eq (c.self.view_is i) (c.other.view_is i))
