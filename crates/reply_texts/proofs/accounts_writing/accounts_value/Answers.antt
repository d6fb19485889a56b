use Rattle.reply_texts.proofs.accounts_writing.accounts_value.Goals as goal

pub returns : goal.returns
returns c =
    c.object.ensures _ (c.member-2.ensures _ _ (c.member.ensures _ _ c.new.ensures c.list_value.ensures)
    c.list_value-2.ensures)
