use Rattle.std.proofs.Common.{◌∙◌, nat_lt, ◌&&◌, arith}
use Rattle.cards.specs.CardBits.{contains-cards_of_bits}
use Rattle.cards.specs.Card.{number_in_pack}
use Rattle.cards.proofs.HandSetLemmas.{bits_between, between_small, between_order}
use Rattle.cards.proofs.hand.Hand.between.Goals as goal

pub returns : goal.returns
returns c card =
    contains-cards_of_bits _ card
    ∙ bits_between c.number-2.result c.number.result card (omega arith) (omega arith)
    ∙ (λ i. nat_lt (c.number-2.ensures.number i) (number_in_pack card) && nat_lt (number_in_pack card)
    (c.number.ensures.number i))

pub invariant_of-result : goal.invariant_of-result
invariant_of-result c = between_small c.number-2.result c.number.result (omega arith) c.number.ensures.below

pub overflow_sub-result : goal.overflow_sub-result
overflow_sub-result c = between_order c.number-2.result c.number.result (omega arith) c.number.ensures.below
