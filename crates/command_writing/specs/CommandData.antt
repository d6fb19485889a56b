-- What is written of a command: an object whose members stand in the order of their names, as a client sends it.
use Rattle.std.specs.Prelude.{ℕ, List, [], ◌∷◌, codes}
use Rattle.serde_json.specs.Data.{Data, string, object, member, no_members}
use Rattle.cards.specs.Hands.{Hands}
use Rattle.movement.specs.declared.cell.Cell.{Cell}
use Rattle.solver_results.specs.PlayAnswer.{PlayedDeal}
use Rattle.session_commands.specs.declared.command.Command.{Command}
use Rattle.session_commands.specs.declared.command.Command.TheVariants as command
use Rattle.session_commands.specs.Row.{word_text}
use Rattle.session_commands.specs.Told.{word_of}
use Rattle.command_writing.specs.CommandPart.{CommandPart, ◌says◌, with_parts}
use Rattle.command_writing.specs.CommandPart.{Table, Board, Result, Play, NorthSouth, EastWest, Reason, Name, Pair, Place}
use Rattle.command_writing.specs.CommandPart.{Digest, Role, Senior, Junior, Shown, Deal, Tricks, Contract, Costs}

-- each command's members beside its word, in the order of its fields
abbrev pub command_parts : Command → List CommandPart
command_parts (command.Enter cell outcome play) =
    Table says cell.table ∷ Board says cell.board ∷ Result says outcome ∷ Play says play ∷ []
command_parts (command.Confirm cell outcome) = Table says cell.table ∷ Board says cell.board ∷ Result says outcome ∷ []
command_parts (command.Correct cell outcome play) =
    Table says cell.table ∷ Board says cell.board ∷ Result says outcome ∷ Play says play ∷ []
command_parts (command.Rule cell north_south east_west reason) =
    Table says cell.table ∷ Board says cell.board ∷ NorthSouth says north_south ∷ EastWest says east_west ∷ Reason says reason ∷ []
command_parts (command.Void cell) = Table says cell.table ∷ Board says cell.board ∷ []
command_parts (command.Hold board) = Board says board ∷ []
command_parts (command.Release board) = Board says board ∷ []
command_parts (command.Seat name pair place) = Name says name ∷ Pair says pair ∷ Place says place ∷ []
command_parts (command.Unseat name) = Name says name ∷ []
command_parts (command.AddUser name digest) = Name says name ∷ Digest says digest ∷ []
command_parts (command.Assign name role) = Name says name ∷ Role says role ∷ []
command_parts (command.Deassign name role) = Name says name ∷ Role says role ∷ []
command_parts (command.AddInheritance senior junior) = Senior says senior ∷ Junior says junior ∷ []
command_parts (command.DeleteInheritance senior junior) = Senior says senior ∷ Junior says junior ∷ []
command_parts (command.Solved board table) = Board says board ∷ Deal says table ∷ Tricks says table ∷ []
command_parts (command.Analysed cell costs) =
    Table says cell.table
    ∷ Board says cell.board
    ∷ Deal says costs.deal
    ∷ Contract says costs.contract
    ∷ Play says costs.play
    ∷ Costs says costs
    ∷ []
command_parts (command.Rename name shown) = Name says name ∷ Shown says shown ∷ []
command_parts _ = []

-- an object of a word and these members
abbrev pub parts_data : List ℕ → List CommandPart → Data
parts_data word parts = object (with_parts parts (member (codes "cmd") (string word) no_members))

-- each command, called as its row says
abbrev pub command_data : Command → Data
command_data given = parts_data (word_text (word_of given)) (command_parts given)

-- a board's table, with the deal that it is of
abbrev pub solved_data : ℕ → Hands → Data
solved_data board deal = command_data (command.Solved board deal)

-- what a play cost, with its deal, its contract and its cards
abbrev pub analysed_data : Cell → PlayedDeal → Data
analysed_data cell played = command_data (command.Analysed cell played)
