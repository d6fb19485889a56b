use Rattle.std.proofs.Common.{◌≡◌, Result, subst, ap, ◌∙◌}
use Rattle.std.specs.Prelude.{IfOk}
use Rattle.std.specs.declared.alloc.AllocError.{AllocError}
use Rattle.std.proofs.lemmas.Result.{IfOk-weaker}
use Rattle.serde_json.specs.View.{view}
use Rattle.serde_json.specs.declared.value.Value.{Value}
use Rattle.serde_json.specs.Written.{has_float, compact_text}
use Rattle.reply_texts.proofs.reply_writing.text_of.Goals as goal

pub returns : goal.returns
returns c = λ written no_float says.
    let is = subst (λ (r : Result Value AllocError). IfOk r (λ v. view v ≡ written)) c.in_ok-value.was says in
    IfOk-weaker c.to_string.result _ _ (λ text h. h (ap has_float is ∙ no_float) ∙ ap compact_text is) c.to_string.ensures.text
