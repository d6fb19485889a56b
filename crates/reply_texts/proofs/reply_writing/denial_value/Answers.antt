use Rattle.std.proofs.Common.{ap, refl, ◌∙◌}
use Rattle.std.proofs.lemmas.Result.{IfOk-weaker}
use Rattle.serde_json.specs.Data.{string}
use Rattle.reply_texts.proofs.reply_writing.denial_value.Goals as goal

pub returns : goal.returns
returns c =
    c.object.ensures _
    (c.member.ensures _ _ (c.number-4.ensures _ _ (c.number-3.ensures _ _ (c.number.ensures _ _ c.new.ensures refl)
    c.number-2.ensures) refl) (IfOk-weaker c.try_from_str.result _ _ (λ v h. h ∙ ap string c.explain.ensures)
    c.try_from_str.ensures))
