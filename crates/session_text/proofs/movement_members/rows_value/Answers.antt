use Rattle.std.proofs.Common.{List, map, take, ap, sym, subst, ◌∙◌}
use Rattle.std.proofs.lemmas.Grind.{take_at_read}
use Rattle.std.proofs.lemmas.List.{map_push}
use Rattle.serde_json.specs.Data.{Data}
use Rattle.json_fields.specs.Written.{HasItems}
use Rattle.session_text.specs.SessionData.{row_data}
use Rattle.session_text.proofs.movement_members.rows_value.Goals as goal

pub loop-row-preserved : goal.loop-row-preserved
loop-row-preserved c =
    subst (λ (items : List Data). HasItems c.item-items.result items)
    (sym (ap (map row_data) (take_at_read c.args.rows.now c.loop-row.row-index _ c.loop-row-test.true).1
    ∙ map_push row_data (take c.loop-row.row-index c.args.rows.now) _))
    (c.item-items.ensures _ _ c.loop-row.invariant c.row_value.ensures)
