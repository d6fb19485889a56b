use Rattle.reply_texts.proofs.status_writing.with_absent.Goals as goal

pub returns-in-Some : goal.returns-in-Some
returns-in-Some c members has =
    rw c.in-Some.is (c.member.ensures members _ has (c.string_value.ensures _ c.to_string.ensures.ok))
