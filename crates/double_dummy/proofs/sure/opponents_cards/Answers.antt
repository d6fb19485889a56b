use Rattle.std.proofs.Common.{◌∙◌, ap}
use Rattle.table_terms.specs.Place.{left_of}
use Rattle.double_dummy.proofs.SureLemmas.{of_opponents}
use Rattle.double_dummy.proofs.sure.opponents_cards.Goals as goal

pub returns : goal.returns
returns c =
    of_opponents c.args.position.now.hands c.args.holder c.left-left.result c.left-2.result c.hand.result
    c.hand-2.result c.union.result c.left-left.ensures (c.left-2.ensures ∙ ap left_of c.left.ensures)
    c.hand.ensures.hand c.hand-2.ensures.hand c.union.ensures
