use Rattle.std.proofs.Common.{ap, ◌∙◌}
use Rattle.std.proofs.lemmas.Result.{IfOk-weaker}
use Rattle.serde_json.specs.Written.{has_float, compact_text}
use Rattle.wire.specs.AuditText.{audit_refusal_text}
use Rattle.wire.proofs.audit_writing.audit_refusal_text.Goals as goal

pub returns : goal.returns
unfolding audit_refusal_text
returns c =
    let says = c.in_ok-value.ensures in
    IfOk-weaker c.to_string.result _ _ (λ s h. h (ap has_float says) ∙ ap compact_text says) c.to_string.ensures.text
