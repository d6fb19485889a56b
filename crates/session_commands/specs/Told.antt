-- What an audit tells of a command: how it is called, and what it is about. Both are read off the command's row.
--
-- own: an audit tells no result, no card, no percentage, no reason and no name to show.
use Rattle.session_commands.specs.declared.command.Command.{Command}
use Rattle.session_commands.specs.declared.command_word.CommandWord.{CommandWord}
use Rattle.session_commands.specs.declared.target.Target.{Target}
use Rattle.session_commands.specs.Row.{command_row}

-- how it is called
abbrev pub word_of : Command → CommandWord
word_of command = (command_row command).word

-- what it is about: a table's board, a board, a user, a user's role, two roles, or the session
abbrev pub target_of : Command → Target
target_of command = (command_row command).target
