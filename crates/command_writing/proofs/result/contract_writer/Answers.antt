use Rattle.command_writing.proofs.result.contract_writer.Goals as goal

pub returns-clause-members : goal.returns-clause-members
returns-clause-members c =
    c.member-2.ensures _ _
    (c.number-4.ensures _ _
    (c.number-2.ensures _ _ (c.member.ensures _ _ c.new.ensures (c.string_value.ensures _ c.to_string.ensures.ok))
    c.number.ensures.number) c.number-3.ensures.value) (c.string_value-2.ensures _ c.to_string-2.ensures.ok)
