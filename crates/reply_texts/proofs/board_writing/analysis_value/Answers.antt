use Rattle.std.proofs.Common.{refl}
use Rattle.reply_texts.proofs.board_writing.analysis_value.Goals as goal

pub returns : goal.returns
returns c =
    c.object.ensures _ (c.member.ensures _ _ (c.number.ensures _ _ c.new.ensures refl) c.found_tricks.ensures)
