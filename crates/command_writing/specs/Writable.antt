-- Commands that there are: their numbers, names, names to show, outcomes and deals are such as their types keep.
use Rattle.std.specs.Prelude.{◌≤◌}
use Rattle.session_commands.specs.declared.command.Command.{Command}
use Rattle.session_commands.specs.declared.command.Command.TheVariants as command
use Rattle.command_writing.specs.CommandPart.{AreThere}
use Rattle.command_writing.specs.CommandData.{command_parts}

-- what stands in its members is such: every value of the type is so
abbrev pub IsWritable : Command → Type 0
IsWritable given = AreThere (command_parts given)

-- a command that a client can send: it isn't the solver's, and pairs are numbered from 1
abbrev pub IsSendable : Command → Type 0
IsSendable (command.Seat name pair place) = 1 ≤ pair.number
IsSendable (command.Solved board table) = ⊥
IsSendable (command.Analysed cell costs) = ⊥
IsSendable _ = Unit {0}
