use Rattle.double_dummy.proofs.SureLemmas.{of_others}
use Rattle.double_dummy.proofs.sure.others_cards.Goals as goal

pub returns : goal.returns
returns c =
    of_others c.args.position.now.hands c.args.leader c.left-left.result c.left-partner.result c.left-right.result
    c.hand.result c.hand-2.result c.hand-3.result c.union.result c.union-2.result c.left-left.ensures
    c.left-partner.ensures c.left-right.ensures c.hand.ensures.hand c.hand-2.ensures.hand c.hand-3.ensures.hand
    c.union.ensures c.union-2.ensures
