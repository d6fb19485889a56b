use Rattle.reply_texts.proofs.list_writing.boards_value.Goals as goal

pub returns : goal.returns
returns c =
    c.object.ensures _ (c.member-2.ensures _ _ (c.member.ensures _ _ c.new.ensures c.list_value.ensures) c.from.ensures)
