use Rattle.std.proofs.Common.{ap, ◌∙◌}
use Rattle.std.proofs.lemmas.Result.{IfOk-weaker}
use Rattle.serde_json.specs.Data.{array}
use Rattle.wire.specs.ReceiptText.{answers_data}
use Rattle.wire.proofs.receipt_writing.receipt_value.Goals as goal

pub returns : goal.returns
returns c =
    c.object.ensures _
    (c.member-4.ensures _ _
    (c.member-3.ensures _ _
    (c.member-2.ensures _ _ (c.member.ensures _ _ c.new.ensures (IfOk-weaker c.answers_value.result _ _
    (λ v h. h ∙ ap (λ answers. array (answers_data answers)) c.as_slice.ensures.value) c.answers_value.ensures))
    c.from.ensures) c.from-2.ensures) c.from-3.ensures)
