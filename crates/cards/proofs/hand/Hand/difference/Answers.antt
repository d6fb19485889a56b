use Rattle.std.proofs.Common.{◌∙◌}
use Rattle.std.specs.FinSet as set
use Rattle.cards.proofs.HandSetLemmas.{and_below, cards_of_bits-without}
use Rattle.cards.proofs.hand.Hand.difference.Goals as goal

pub returns : goal.returns
returns c =
    cards_of_bits-without c.self.inside.bits c.other.inside.bits c.other.invariant
    ∙ (λ i. set.difference (c.self.view_is i) (c.other.view_is i))

pub invariant_of-result : goal.invariant_of-result
invariant_of-result c = and_below _ _ _ c.self.invariant
