use Rattle.std.proofs.Common.{ap, ◌∙◌}
use Rattle.std.proofs.lemmas.Result.{IfOk-weaker}
use Rattle.serde_json.specs.Written.{has_float, compact_text}
use Rattle.wire.specs.AuditText.{audit_row_text}
use Rattle.wire.proofs.AuditTextLemmas.{no_float_in_a_row}
use Rattle.wire.proofs.audit_writing.audit_row_text.Goals as goal

pub returns : goal.returns
unfolding audit_row_text
returns c =
    let says = c.in_ok-value.ensures in
    let no_float = no_float_in_a_row c.args.row.now in
    IfOk-weaker c.to_string.result _ _ (λ s h. h (ap has_float says ∙ no_float) ∙ ap compact_text says)
    c.to_string.ensures.text
