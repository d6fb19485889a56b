use Rattle.session_state.proofs.PartLemmas.{entry_part, entry_elsewhere}
use Rattle.session_state.proofs.laws.each_command_changes_its_own_part.Goals as goal

pub returns-clause-part : goal.returns-clause-part
returns-clause-part c = entry_part

pub returns-clause-cell : goal.returns-clause-cell
returns-clause-cell c = entry_elsewhere
