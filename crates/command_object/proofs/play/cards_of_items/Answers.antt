use Rattle.std.proofs.Common.{add-one, sym, ◌∙◌, arith}
use Rattle.json_fields.proofs.ListLemmas.{each_kept}
use Rattle.json_fields.proofs.ReadingLemmas.{is_there}
use Rattle.std.proofs.lemmas.Result.{err_from_is_err_and}
use Rattle.command_object.specs.Play.{card_of}
use Rattle.command_object.proofs.ListLemmas.{each_fails, fails}
use Rattle.command_object.proofs.play.cards_of_items.Goals as goal

pub loop-value-preserved : goal.loop-value-preserved
loop-value-preserved c =
    let l = c.loop-value in
    rw (add-one, c.in_ok-push.ensures.items)
    (each_kept card_of l.cards.items c.args.list.now l.value-index c.value-item.result c.in_ok-card.card _ l.invariant
    (omega (arith, c.loop-value-test.true)) c.value-item.is
    (is_there _ _ (sym c.card_of.ensures ∙ c.in_ok-card.was)))

pub returns-in_err-card-clause-fault : goal.returns-in_err-card-clause-fault
returns-in_err-card-clause-fault c =
    let l = c.loop-value in
    let p = err_from_is_err_and c.from_residual.result c.from_residual.ensures.1 in
    rw (p.1, p.2)
    (each_fails card_of l.cards.items c.args.list.now l.value-index c.value-item.result _ _ l.invariant
    (omega (arith, c.loop-value-test.true)) c.value-item.is (fails _ _ (sym c.card_of.ensures ∙ c.in_err-card.was)))
