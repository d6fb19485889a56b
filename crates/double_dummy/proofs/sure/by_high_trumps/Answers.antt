use Rattle.std.proofs.Common.{arith, sym, ◌∙◌}
use Rattle.std.proofs.lemmas.Bool.{and_parts}
use Rattle.double_dummy.proofs.SureLemmas.{from_one_up, trumps_answer}
use Rattle.double_dummy.proofs.sure.by_high_trumps.Goals as goal

pub returns : goal.returns
returns c =
    trumps_answer c.args.position.now c.args.trump c.args.holder c.side.result c.side-2.result c.hand.result
    c.of_suit-mine.result c.opponents_cards-others.result c.of_suit-against.result c.common-counted.result
    c.common-beaters.result c.common-counted.result c.answer.result.known c.args.target c.tricks_wanted-wanted.result
    c.answer.result.holds c.hand.ensures.position c.requires.start c.requires.trump c.side.ensures c.side-2.ensures
    c.hand.ensures.hand c.of_suit-mine.ensures c.opponents_cards-others.ensures c.of_suit-against.ensures
    (λ card held. (and_parts _ _ (sym (c.common-counted.ensures card) ∙ held)).0)
    (from_one_up c.of_suit-mine.result c.of_suit-against.result c.upwards-reach.result c.common-counted.result
    c.common-beaters.result c.hand.result c.opponents_cards-others.result c.args.trump c.in_ok-lowest.lowest
    c.of_suit-mine.ensures c.of_suit-against.ensures c.upwards-reach.ensures.up c.upwards-reach.ensures.all
    c.common-counted.ensures c.common-beaters.ensures)
    (λ tricks. c.tricks_wanted-wanted.ensures c.args.position.now tricks c.requires.left)
    (omega (arith, c.len.ensures.cards, c.len-2.ensures.cards, c.if-saturating_sub-wanted.false))
    c.answer.ensures.holds c.answer.ensures.known
