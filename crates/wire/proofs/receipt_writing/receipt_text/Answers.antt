use Rattle.std.proofs.Common.{ap, ◌∙◌}
use Rattle.std.proofs.lemmas.Result.{IfOk-weaker}
use Rattle.serde_json.specs.Written.{has_float, compact_text}
use Rattle.wire.specs.ReceiptText.{receipt_text}
use Rattle.wire.proofs.ReceiptLemmas.{no_float_in_a_receipt}
use Rattle.wire.proofs.receipt_writing.receipt_text.Goals as goal

pub returns : goal.returns
unfolding receipt_text
returns c =
    let says = c.in_ok-receipt.ensures in
    let no_float = no_float_in_a_receipt c.args.submission.now.answers.items c.args.submission.now.first
    c.args.submission.now.last c.args.version in
    IfOk-weaker c.to_string.result _ _ (λ s h. h (ap has_float says ∙ no_float) ∙ ap compact_text says)
    c.to_string.ensures.text
