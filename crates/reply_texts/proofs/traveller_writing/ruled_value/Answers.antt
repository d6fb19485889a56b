use Rattle.std.proofs.Common.{refl}
use Rattle.reply_texts.proofs.traveller_writing.ruled_value.Goals as goal

pub returns : goal.returns
returns c =
    c.object.ensures _
    (c.number.ensures _ _
    (c.member-3.ensures _ _
    (c.member-2.ensures _ _ (c.member.ensures _ _ c.new.ensures (c.string_value.ensures _ c.to_string.ensures.ok))
    (c.string_value-2.ensures _ c.to_string-2.ensures.ok)) c.list_value.ensures) refl)
