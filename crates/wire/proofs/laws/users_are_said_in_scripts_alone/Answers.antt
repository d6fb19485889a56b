use Rattle.wire.proofs.LineLemmas.{said_line, unsaid_line}
use Rattle.wire.proofs.laws.users_are_said_in_scripts_alone.Goals as goal

pub returns-clause-script : goal.returns-clause-script
returns-clause-script c = said_line

pub returns-clause-connection : goal.returns-clause-connection
returns-clause-connection c = unsaid_line
