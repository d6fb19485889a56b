use Rattle.std.proofs.Common.{arith, map, take, ◌∷◌, [], ◌++◌, ap, sym, ◌∙◌}
use Rattle.std.proofs.lemmas.List.{map-append, map_more, take_all}
use Rattle.serde_json.specs.Data.{array}
use Rattle.serde_json.specs.View.{view, items_of}
use Rattle.wire.specs.AuditText.{audit_row_data}
use Rattle.wire.proofs.audit_writing.rows_value.Goals as goal

pub loop-row-preserved : goal.loop-row-preserved
loop-row-preserved c =
    ap (map view) c.in_ok-push.ensures.ok
    ∙ map-append view c.loop-row.values.items (c.in_ok-value.value ∷ [])
    ∙ (λ i. c.loop-row.invariant i ++ c.in_ok-value.ensures i ∷ [])
    ∙ (λ i. map audit_row_data (take c.loop-row.row-index c.args.rows.now) ++ audit_row_data (c.row-item.is i) ∷ [])
    ∙ sym (map_more audit_row_data c.args.rows.now c.loop-row.row-index _ c.loop-row-test.true)

pub loop-row-smaller : goal.loop-row-smaller
loop-row-smaller c = omega (arith, c.loop-row-test.true)

pub returns : goal.returns
returns c =
    let all = take_all c.loop-row.row-index c.args.rows.now (omega (arith, c.loop-row-test.false)) in
    c.array_value.ensures ∙ ap (λ ds. array (items_of ds)) c.loop-row.invariant
    ∙ (λ i. array (items_of (map audit_row_data (all i))))
