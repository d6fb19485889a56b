use Rattle.command_writing.proofs.result.played_value.Goals as goal

pub returns-clause-value : goal.returns-clause-value
returns-clause-value c =
    c.object.ensures _ (c.number-2.ensures _ _ c.contract_writer.ensures.members c.number.ensures.value)
