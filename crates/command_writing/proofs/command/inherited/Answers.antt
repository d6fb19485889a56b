use Rattle.command_writing.proofs.command.inherited.Goals as goal

pub returns : goal.returns
returns c =
    c.object.ensures _
    (c.member-3.ensures _ _
    (c.member-2.ensures _ _ (c.member.ensures _ _ c.new.ensures c.try_from_str.ensures) c.role_value.ensures)
    c.role_value-2.ensures)
