use Rattle.std.proofs.Common.{map, ap, ◌∙◌}
use Rattle.std.proofs.lemmas.Result.{IfOk-weaker}
use Rattle.serde_json.specs.Data.{array}
use Rattle.serde_json.specs.View.{items_of}
use Rattle.wire.specs.AuditText.{audit_row_data}
use Rattle.wire.proofs.audit_writing.audit_value.Goals as goal

pub returns : goal.returns
returns c =
    c.object.ensures _
    (c.member-2.ensures _ _
    (c.member.ensures _ _ c.new.ensures
    (IfOk-weaker c.rows_value.result _ _ (λ v h. h ∙ ap (λ rows. array (items_of (map audit_row_data rows)))
    c.as_slice.ensures) c.rows_value.ensures)) c.from.ensures)
