use Rattle.command_writing.proofs.TellingLemmas.{tells}
use Rattle.command_writing.proofs.laws.no_two_commands_are_written_alike.Goals as goal

pub returns : goal.returns
returns c = tells
