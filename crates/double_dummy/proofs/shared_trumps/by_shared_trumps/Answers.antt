use Rattle.std.proofs.Common.{arith, sym, ◌∙◌}
use Rattle.std.proofs.lemmas.Bool.{and_parts}
use Rattle.double_dummy.proofs.SureLemmas.{from_one_up, shared_answer}
use Rattle.double_dummy.proofs.shared_trumps.by_shared_trumps.Goals as goal

pub returns : goal.returns
returns c =
    shared_answer c.args.position.now c.args.trump c.args.holder c.partner.result c.side.result c.side-2.result
    c.hand-mine.result c.hand-theirs.result c.union.result c.of_suit-2.result c.of_suit-both.result
    c.opponents_cards.result c.of_suit-against.result c.common-counted.result c.common-beaters.result
    c.answer.result.known c.args.target c.tricks_wanted-wanted.result c.answer.result.holds
    c.hand-mine.ensures.position c.requires.start c.requires.trump c.side.ensures c.side-2.ensures c.partner.ensures
    c.hand-mine.ensures.hand c.hand-theirs.ensures.hand c.union.ensures c.of_suit-2.ensures c.of_suit-both.ensures
    c.opponents_cards.ensures c.of_suit-against.ensures
    (λ card held. (and_parts _ _ (sym (c.common-counted.ensures card) ∙ held)).0)
    (from_one_up c.of_suit-both.result c.of_suit-against.result c.upwards-reach.result c.common-counted.result
    c.common-beaters.result c.union.result c.opponents_cards.result c.args.trump c.in_ok-lowest.lowest
    c.of_suit-both.ensures c.of_suit-against.ensures c.upwards-reach.ensures.up c.upwards-reach.ensures.all
    c.common-counted.ensures c.common-beaters.ensures)
    (λ tricks. c.tricks_wanted-wanted.ensures c.args.position.now tricks c.requires.left)
    (omega (arith, c.len.ensures.cards, c.len-2.ensures.cards, c.if-len.false))
    (omega (arith, c.len-3.ensures.cards, c.len-4.ensures.cards, c.if-saturating_sub-wanted.false))
    c.answer.ensures.holds c.answer.ensures.known
