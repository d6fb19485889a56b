use Rattle.std.proofs.Common.{◌∙◌, ap, arith, sym}
use Rattle.table_terms.specs.Place.{left_of}
use Rattle.double_dummy.proofs.SureLemmas.{is_guarded}
use Rattle.double_dummy.proofs.sure.guarded.Goals as goal

pub returns-then-contains-clause-second : goal.returns-then-contains-clause-second
returns-then-contains-clause-second c = (
  c.in_ok-best.best,
  (
    c.in_ok-guard.guard,
    is_guarded c.args.position.now c.args.trump c.args.holder c.left.result c.hand.result c.of_suit-mine.result
        c.hand-2.result c.of_suit-before.result c.opponents_cards.result c.of_suit-against.result c.upwards.result
        c.common.result c.in_ok-best.best c.top-second.result c.in_ok-guard.guard c.requires c.hand.ensures.hand
        c.of_suit-mine.ensures (c.left.ensures ∙ ap left_of c.partner.ensures) c.hand-2.ensures.hand
        c.of_suit-before.ensures (sym c.if-contains.ensures) c.in_ok-guard.ensures.some
        (c.top-second.ensures c.in_ok-guard.ensures.some)
        (omega (arith, c.if-number.false, c.number.ensures, c.number-2.ensures)) c.opponents_cards.ensures
        c.of_suit-against.ensures c.upwards.ensures.all c.common.ensures c.in_ok-best.ensures.alone,
  ),
)
