use Rattle.command_writing.proofs.command.renamed.Goals as goal

pub returns-clause-value : goal.returns-clause-value
returns-clause-value c =
    c.object.ensures _
    (c.member-3.ensures _ _
    (c.member-2.ensures _ _ (c.member.ensures _ _ c.new.ensures c.try_from_str.ensures) c.name_value.ensures.value)
    c.shown_value.ensures.value)
