use Rattle.std.proofs.Common.{sym, ◌∙◌}
use Rattle.cards.specs.Cards.{are_same}
use Rattle.cards.proofs.CardBitsLemmas.{are_same-cards_of_bits}
use Rattle.cards.proofs.hand.HandPartialEq.eq.Goals as goal

pub returns : goal.returns
returns c =
    sym (are_same-cards_of_bits c.self.inside.bits c.other.inside.bits c.self.invariant c.other.invariant)
    ∙ (λ i. are_same (c.self.view_is i) (c.other.view_is i))
