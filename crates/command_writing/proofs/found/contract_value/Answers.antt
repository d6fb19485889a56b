use Rattle.command_writing.proofs.found.contract_value.Goals as goal

pub returns-clause-value : goal.returns-clause-value
returns-clause-value c = c.object.ensures _ c.contract_writer.ensures.members
