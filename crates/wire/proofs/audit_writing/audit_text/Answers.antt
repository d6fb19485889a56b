use Rattle.std.proofs.Common.{ap, ◌∙◌}
use Rattle.std.proofs.lemmas.Result.{IfOk-weaker}
use Rattle.serde_json.specs.Written.{has_float, compact_text}
use Rattle.wire.specs.AuditText.{audit_text}
use Rattle.wire.proofs.AuditTextLemmas.{no_float_in_an_audit}
use Rattle.wire.proofs.audit_writing.audit_text.Goals as goal

pub returns : goal.returns
unfolding audit_text
returns c =
    let says = c.in_ok-value.ensures in
    let no_float = no_float_in_an_audit c.args.rows.now c.args.version in
    IfOk-weaker c.to_string.result _ _ (λ s h. h (ap has_float says ∙ no_float) ∙ ap compact_text says)
    c.to_string.ensures.text
