use Rattle.std.proofs.Common.{refl}
use Rattle.reply_texts.proofs.par_writing.par_value.Goals as goal

pub returns : goal.returns
returns c =
    c.object.ensures _
    (c.member-2.ensures _ _ (c.member.ensures _ _ (c.number.ensures _ _ c.new.ensures refl) c.end_value.ensures)
    c.score_value.ensures)
