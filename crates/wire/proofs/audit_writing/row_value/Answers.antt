use Rattle.std.proofs.Common.{ap, ◌∙◌}
use Rattle.std.proofs.lemmas.Result.{IfOk-weaker}
use Rattle.serde_json.specs.Data.{string}
use Rattle.wire.proofs.audit_writing.row_value.Goals as goal

pub returns : goal.returns
returns c =
    c.array.ensures _
    (c.item-4.ensures _ _
    (c.item-3.ensures _ _ (c.item-2.ensures _ _ (c.item.ensures _ _ c.new.ensures c.from.ensures)
    c.actor_value.ensures) (IfOk-weaker c.try_from_str.result _ _ (λ v h. h ∙ ap string c.text.ensures)
    c.try_from_str.ensures)) (c.string_value.ensures _ c.target_text.ensures))
