use Rattle.command_writing.proofs.found.tricks_value.Goals as goal

pub returns : goal.returns
returns c =
    c.object.ensures _
    (c.member-4.ensures _ _
    (c.member-3.ensures _ _
    (c.member-2.ensures _ _ (c.member.ensures _ _ c.new.ensures c.declarer_value.ensures) c.declarer_value-2.ensures)
    c.declarer_value-3.ensures) c.declarer_value-4.ensures)
