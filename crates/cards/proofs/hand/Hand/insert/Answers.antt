use Rattle.std.proofs.Common.{◌*◌, ◌^◌, ◌%◌, bit_or, ap, ◌∙◌}
use Rattle.std.specs.FinSet as set
use Rattle.std.proofs.lemmas.Nat.{or_lt}
use Rattle.cards.specs.Cards.{cards_of_bits}
use Rattle.cards.proofs.CardBitsLemmas.{cards_of_bits-set, one_bit_below}
use Rattle.cards.proofs.hand.Hand.insert.Goals as goal

pub invariant_of-self : goal.invariant_of-self
invariant_of-self c = or_lt 52 _ _ c.self.invariant (one_bit_below c.number.result c.number.ensures.below)

pub returns : goal.returns
returns c =
    ap (λ n. cards_of_bits (bit_or c.self.inside.bits (1 * 2 ^ n % 2 ^ 64))) c.number.ensures.number
    ∙ cards_of_bits-set c.self.inside.bits c.args.card
    ∙ ap (λ cards. set.insert cards c.args.card) c.self.view_is
