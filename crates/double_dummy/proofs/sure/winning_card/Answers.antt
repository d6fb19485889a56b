use Rattle.std.proofs.Common.{◌∙◌, arith, ap, refl}
use Rattle.table_terms.specs.Place.{side_of}
use Rattle.double_dummy.proofs.SureLemmas.{partners, winning_answer}
use Rattle.double_dummy.proofs.sure.winning_card.Goals as goal

pub returns-in-Some : goal.returns-in-Some
returns-in-Some c =
    winning_answer c.args.position.now c.left-second.result c.left-second.result c.side.result c.side-in-Some.result
    c.args.led c.in-Some.known c.answer.result.known c.args.target c.tricks_wanted.result c.answer.result.holds
    c.hand-third.ensures.position c.requires refl c.side.ensures c.side-in-Some.ensures c.in-Some.ensures
    (λ tricks. c.tricks_wanted.ensures c.args.position.now tricks c.tricks_left-tricks_left.ensures.quarter)
    (omega (arith, c.if-tricks_wanted-gt1.false)) c.answer.ensures.holds c.answer.ensures.known

pub returns : goal.returns
returns c =
    winning_answer c.args.position.now c.left-second.result c.partner.result c.side.result c.side-2.result
    c.args.led c.in_ok-known.known c.answer-2.result.known c.args.target c.tricks_wanted.result
    c.answer-2.result.holds c.hand-third.ensures.position c.requires
    (ap side_of c.partner.ensures ∙ partners c.left-second.result) c.side.ensures c.side-2.ensures
    c.in_ok-known.ensures
    (λ tricks. c.tricks_wanted.ensures c.args.position.now tricks c.tricks_left-tricks_left.ensures.quarter)
    (omega (arith, c.if-tricks_wanted-gt1.false)) c.answer-2.ensures.holds c.answer-2.ensures.known
