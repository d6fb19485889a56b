use Rattle.std.proofs.Common.{refl}
use Rattle.reply_texts.proofs.table_writing.reason_value.Goals as goal

pub returns : goal.returns
returns c =
    c.object.ensures _ (c.number-2.ensures _ _ (c.member.ensures _ _ (c.number.ensures _ _ c.new.ensures refl)
    c.code_value.ensures) refl)
