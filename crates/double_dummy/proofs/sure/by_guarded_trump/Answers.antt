use Rattle.std.proofs.Common.{◌∙◌, arith, ap, refl}
use Rattle.table_terms.specs.Place.{side_of}
use Rattle.double_dummy.proofs.SureLemmas.{guarded_answer, partners}
use Rattle.double_dummy.proofs.sure.by_guarded_trump.Goals as goal

pub returns-in-Some : goal.returns-in-Some
returns-in-Some c =
    guarded_answer c.args.position.now c.leader.result c.left-next.result c.left-next.result c.side.result
    c.side-in-Some.result c.in-Some.second c.only.result c.answer.result.known c.args.target c.tricks_wanted.result
    c.answer.result.holds c.guarded.ensures.position c.requires.start c.leader.ensures c.left-next.ensures refl
    c.side.ensures c.side-in-Some.ensures c.in-Some.ensures.second ((c.only.ensures c.in-Some.second).1 refl)
    (λ tricks. c.tricks_wanted.ensures c.args.position.now tricks c.requires.left)
    (omega (arith, c.if-tricks_wanted-gt1.false)) c.answer.ensures.holds c.answer.ensures.known

pub returns : goal.returns
returns c =
    guarded_answer c.args.position.now c.leader.result c.left-next.result c.partner.result c.side.result
    c.side-2.result c.in_ok-second.second c.only-2.result c.answer-2.result.known c.args.target
    c.tricks_wanted.result c.answer-2.result.holds c.guarded.ensures.position c.requires.start c.leader.ensures
    c.left-next.ensures (ap side_of c.partner.ensures ∙ partners c.left-next.result) c.side.ensures c.side-2.ensures
    c.in_ok-second.ensures.second ((c.only-2.ensures c.in_ok-second.second).1 refl)
    (λ tricks. c.tricks_wanted.ensures c.args.position.now tricks c.requires.left)
    (omega (arith, c.if-tricks_wanted-gt1.false)) c.answer-2.ensures.holds c.answer-2.ensures.known
