use Rattle.std.proofs.Common.{arith, map, take, ◌∷◌, [], ◌++◌, ap, sym, ◌∙◌}
use Rattle.std.proofs.lemmas.List.{map-append, map_more, take_all}
use Rattle.serde_json.specs.Data.{array}
use Rattle.serde_json.specs.View.{view, items_of}
use Rattle.wire.specs.ReceiptText.{answer_data}
use Rattle.wire.proofs.receipt_writing.answers_value.Goals as goal

pub loop-answer-preserved : goal.loop-answer-preserved
loop-answer-preserved c =
    ap (map view) c.in_ok-push.ensures.ok
    ∙ map-append view c.loop-answer.values.items (c.in_ok-value.value ∷ [])
    ∙ (λ i. c.loop-answer.invariant i ++ c.in_ok-value.ensures i ∷ [])
    ∙ (λ i. map answer_data (take c.loop-answer.answer-index c.args.answers.now) ++ answer_data (c.answer-item.is i) ∷
    [])
    ∙ sym (map_more answer_data c.args.answers.now c.loop-answer.answer-index _ c.loop-answer-test.true)

pub loop-answer-smaller : goal.loop-answer-smaller
loop-answer-smaller c = omega (arith, c.loop-answer-test.true)

pub returns : goal.returns
returns c =
    let all = take_all c.loop-answer.answer-index c.args.answers.now (omega (arith, c.loop-answer-test.false)) in
    c.array_value.ensures ∙ ap (λ ds. array (items_of ds)) c.loop-answer.invariant
    ∙ (λ i. array (items_of (map answer_data (all i))))
