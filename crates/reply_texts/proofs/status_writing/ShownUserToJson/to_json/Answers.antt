use Rattle.std.proofs.Common.{ap, ◌∙◌}
use Rattle.std.proofs.lemmas.Result.{IfOk-weaker}
use Rattle.serde_json.specs.Data.{string}
use Rattle.reply_texts.proofs.status_writing.ShownUserToJson.to_json.Goals as goal

pub returns : goal.returns
returns c =
    c.array.ensures _
    (c.item-2.ensures _ _
    (c.item.ensures _ _ c.new.ensures (IfOk-weaker c.try_from_str.result _ _
    (λ v h. h ∙ ap string c.as_str.ensures.text) c.try_from_str.ensures))
    (IfOk-weaker c.try_from_str-2.result _ _
    (λ v h. h ∙ ap string c.as_str-2.ensures.text) c.try_from_str-2.ensures))
