use Rattle.command_writing.proofs.command.alone.Goals as goal

pub returns : goal.returns
returns c =
    c.object.ensures _ (c.member.ensures _ _ c.new.ensures c.try_from_str.ensures)
