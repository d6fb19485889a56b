use Rattle.std.proofs.Common.{refl}
use Rattle.reply_texts.proofs.traveller_writing.traveller_value.Goals as goal

pub returns : goal.returns
returns c =
    c.object.ensures _ (c.member.ensures _ _ (c.number.ensures _ _ c.new.ensures refl) c.list_value.ensures)
