use Rattle.std.proofs.Common.{◌∙◌}
use Rattle.std.proofs.lemmas.Nat.{or_lt}
use Rattle.std.specs.FinSet as set
use Rattle.cards.proofs.HandUnionLemmas.{cards_of_bits-or}
use Rattle.cards.proofs.hand.Hand.union.Goals as goal

pub invariant_of-result : goal.invariant_of-result
invariant_of-result c = or_lt 52 _ _ c.self.invariant c.other.invariant

pub returns : goal.returns
returns c =
    cards_of_bits-or c.self.inside.bits c.other.inside.bits
    ∙ (λ i. set.union (c.self.view_is i) (c.other.view_is i))
