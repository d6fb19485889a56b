use Rattle.std.proofs.Common.{◌∙◌, ap, sym}
use Rattle.cards.specs.Cards.{bits_of_cards}
use Rattle.cards.specs.CardBits.{bits_of_cards-cards_of_bits}
use Rattle.cards.proofs.hand.Hand.word.Goals as goal

pub returns : goal.returns
returns c = sym (bits_of_cards-cards_of_bits c.self.inside.bits c.self.invariant) ∙ ap bits_of_cards c.self.view_is
