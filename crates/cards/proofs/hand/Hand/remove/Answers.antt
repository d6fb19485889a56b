use Rattle.std.proofs.Common.{◌*◌, ◌^◌, ◌%◌, ◌-◌, bit_and, ap, ◌∙◌}
use Rattle.std.specs.FinSet as set
use Rattle.cards.specs.Cards.{cards_of_bits}
use Rattle.cards.proofs.CardBitsLemmas.{cards_of_bits-clear}
use Rattle.cards.proofs.HandSetLemmas.{and_below}
use Rattle.cards.proofs.hand.Hand.remove.Goals as goal

pub returns : goal.returns
returns c =
    ap (λ n. cards_of_bits (bit_and c.self.inside.bits (18446744073709551615 - 1 * 2 ^ n % 2 ^ 64)))
    c.number.ensures.number
    ∙ cards_of_bits-clear c.self.inside.bits c.args.card
    ∙ ap (λ cards. set.remove cards c.args.card) c.self.view_is

pub invariant_of-self : goal.invariant_of-self
invariant_of-self c = and_below _ _ _ c.self.invariant
