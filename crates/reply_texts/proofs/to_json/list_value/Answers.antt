use Rattle.std.proofs.Common.{arith, map, take, ◌∷◌, [], ◌++◌, ap, sym, ◌∙◌}
use Rattle.std.proofs.lemmas.List.{map-append, map_more}
use Rattle.std.proofs.lemmas.List.{take_all}
use Rattle.serde_json.specs.Data.{array}
use Rattle.serde_json.specs.View.{view, items_of}
use Rattle.reply_texts.proofs.to_json.list_value.Goals as goal

pub loop-item-preserved : goal.loop-item-preserved
loop-item-preserved g c =
    ap (map view) c.in_ok-push.ensures.ok
    ∙ map-append view c.loop-item.values.items (c.in_ok-value.value ∷ [])
    ∙ (λ i. c.loop-item.invariant i ++ c.in_ok-value.ensures i ∷ [])
    ∙ (λ i. map g.T.ToJson.json (take c.loop-item.item-index c.args.items.now) ++ g.T.ToJson.json (c.item-item.is i) ∷
    [])
    ∙ sym (map_more g.T.ToJson.json c.args.items.now c.loop-item.item-index _ c.loop-item-test.true)

pub loop-item-smaller : goal.loop-item-smaller
loop-item-smaller g c = omega (arith, c.loop-item-test.true)

pub returns : goal.returns
returns g c =
    let all = take_all c.loop-item.item-index c.args.items.now (omega (arith, c.loop-item-test.false)) in
    c.array_value.ensures ∙ ap (λ ds. array (items_of ds)) c.loop-item.invariant
    ∙ (λ i. array (items_of (map g.T.ToJson.json (all i))))
