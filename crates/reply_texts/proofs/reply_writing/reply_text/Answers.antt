use Rattle.std.proofs.Common.{◌∙◌}
use Rattle.std.proofs.lemmas.Result.{IfOk-weaker}
use Rattle.reply_texts.specs.ReplyText.{reply_text, around, body_data}
use Rattle.reply_texts.proofs.ReplyLemmas.{reply_pieces}
use Rattle.reply_texts.proofs.reply_writing.reply_text.Goals as goal

pub returns : goal.returns
unfolding reply_text
returns c =
    let reply = c.args.reply.now in
    let says = c.as_str.ensures.value ∙ c.in_ok-body.ensures in
    let word = c.body_word.ensures in
    IfOk-weaker c.with_version.result _ _
    (λ text is. is ∙ (λ i. around (word i) reply.version (says i)) ∙ reply_pieces reply.body reply.version (body_data reply.body))
    c.with_version.ensures
