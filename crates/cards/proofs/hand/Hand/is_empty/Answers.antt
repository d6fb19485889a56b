use Rattle.std.proofs.Common.{sym, ap, ◌∙◌}
use Rattle.std.proofs.lemmas.Bool.{eqb-true, eq-eqb}
use Rattle.cards.specs.Cards.{cards_of_bits}
use Rattle.cards.proofs.CardBitsLemmas.{cards_of_no_bits, no_bits_of_none}
use Rattle.cards.proofs.hand.Hand.is_empty.Goals as goal

pub returns : goal.returns
returns c = (
  λ zero. sym c.self.view_is ∙ ap cards_of_bits (eqb-true _ _ zero) ∙ cards_of_no_bits,
  λ none. eq-eqb _ _ (no_bits_of_none c.self.inside.bits c.self.invariant (c.self.view_is ∙ none)),
)
