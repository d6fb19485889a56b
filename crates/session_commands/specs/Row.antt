-- A row for each command, in their order: what is known of it whatever the session's state is.
--
-- own: the commands and what they need are this project's.
use Rattle.std.specs.Prelude.{ℕ, Option, Some, None, List, [], ◌∷◌, codes}
use Rattle.movement.specs.declared.cell.Cell.{Cell}
use Rattle.session_roles.specs.Operation.{operation_name}
use Rattle.session_roles.specs.declared.operation.Operation.{Operation}
use Rattle.session_roles.specs.declared.operation.Operation.TheVariants as operation
use Rattle.disclosure_rules.specs.declared.phase.Phase.{Phase}
use Rattle.disclosure_rules.specs.declared.phase.Phase.TheVariants.{Running, Closed, Final}
use Rattle.session_commands.specs.declared.command.Command.{Command}
use Rattle.session_commands.specs.declared.command.Command.TheVariants.{
  Enter,
  Confirm,
  Correct,
  Rule,
  Void,
  Hold,
  Release,
}
use Rattle.session_commands.specs.declared.command.Command.TheVariants.{Seat, Unseat, NextRound, Close, Finalise}
use Rattle.session_commands.specs.declared.command.Command.TheVariants.{AddUser, Assign, Deassign, AddInheritance}
use Rattle.session_commands.specs.declared.command.Command.TheVariants.{DeleteInheritance, Solved, Analysed}
use Rattle.session_commands.specs.declared.command.Command.TheVariants.{Embargo, Lift, Rename}
use Rattle.session_commands.specs.declared.command_row.CommandRow.{CommandRow}
use Rattle.session_commands.specs.declared.command_word.CommandWord.{CommandWord}
use Rattle.session_commands.specs.declared.command_word.CommandWord.TheVariants as word
use Rattle.session_commands.specs.declared.taken.Taken.{Taken}
use Rattle.session_commands.specs.declared.taken.Taken.TheVariants.{InPlay, UntilFinal, InCorrection, Always}
use Rattle.session_commands.specs.declared.target.Target.{Target}
use Rattle.session_commands.specs.declared.target.Target.TheVariants as about
use Rattle.session_commands.specs.declared.touched.Touched.{Touched}
use Rattle.session_commands.specs.declared.touched.Touched.TheVariants as touches

-- a row: how the command is called, when it is taken, what it is about, and whom it may let see the hands of a board
abbrev row : CommandWord → Taken → Target → Touched → CommandRow
row word taken target touched = record { word = word; taken = taken; target = target; touched = touched }

-- the row of each command. Whom it touches: a result may complete its board, and a board that is released is shown
-- again, to anybody; a user who takes a seat, is assigned a role or loses one may see more of any board, since a rule
-- may bind or spare who has a role; so may everybody where an inheritance comes or goes, or an embargo is lifted. What
-- is entered, voided or held, a seat that is left, a user with no role yet, a round, a phase, an embargo and a name to
-- show let nobody see more; nor do the solver's numbers, since no rule looks at what a fact says
abbrev pub command_row : Command → CommandRow
command_row (Enter cell outcome play) = row (word.Of operation.Enter) InPlay (about.Cell cell) touches.Nothing
command_row (Confirm cell outcome) = row (word.Of operation.Confirm) InPlay (about.Cell cell) (touches.Board cell.board)
command_row (Correct cell outcome play) =
    row (word.Of operation.Correct) UntilFinal (about.Cell cell) (touches.Board cell.board)
command_row (Rule cell north_south east_west reason) =
    row (word.Of operation.Rule) UntilFinal (about.Cell cell) (touches.Board cell.board)
command_row (Void cell) = row (word.Of operation.Void) UntilFinal (about.Cell cell) touches.Nothing
command_row (Hold board) = row (word.Of operation.Hold) UntilFinal (about.Board board) touches.Nothing
command_row (Release board) = row (word.Of operation.Release) Always (about.Board board) (touches.Board board)
command_row (Seat name pair place) = row (word.Of operation.Seat) InPlay (about.User name) (touches.User name)
command_row (Unseat name) = row (word.Of operation.Unseat) Always (about.User name) touches.Nothing
command_row NextRound = row (word.Of operation.NextRound) InPlay about.Session touches.Nothing
command_row Close = row (word.Of operation.Close) InPlay about.Session touches.Nothing
command_row Finalise = row (word.Of operation.Finalise) InCorrection about.Session touches.Nothing
command_row (AddUser name digest) = row (word.Of operation.AddUser) Always (about.NewUser name) touches.Nothing
command_row (Assign name role) = row (word.Of operation.Assign) Always (about.Assignment name role) (touches.User name)
command_row (Deassign name role) =
    row (word.Of operation.Deassign) Always (about.Assignment name role) (touches.User name)
command_row (AddInheritance senior junior) =
    row (word.Of operation.AddInheritance) Always (about.Inheritance senior junior) touches.Everything
command_row (DeleteInheritance senior junior) =
    row (word.Of operation.DeleteInheritance) Always (about.Inheritance senior junior) touches.Everything
command_row (Solved board table) = row word.Solved Always (about.Board board) touches.Nothing
command_row (Analysed cell costs) = row word.Analysed Always (about.Cell cell) touches.Nothing
command_row Embargo = row (word.Of operation.Embargo) UntilFinal about.Session touches.Nothing
command_row Lift = row (word.Of operation.Lift) Always about.Session touches.Everything
command_row (Rename name shown) = row (word.Of operation.Rename) Always (about.User name) touches.Nothing

-- ---- what the columns say

-- a command's word as it is written, in a message, a journal, an audit and a log alike
abbrev pub word_text : CommandWord → List ℕ
word_text (word.Of operation) = operation_name operation
word_text word.Solved = codes "Solved"
word_text word.Analysed = codes "Analysed"

-- the operation for which a user needs the permission; the solver's words have none
abbrev pub operation_called : CommandWord → Option Operation
operation_called (word.Of operation) = Some operation
operation_called word.Solved = None
operation_called word.Analysed = None

-- the phases
abbrev pub phases_when : Taken → List Phase
phases_when InPlay = Running ∷ []
phases_when UntilFinal = Running ∷ Closed ∷ []
phases_when InCorrection = Closed ∷ []
phases_when Always = Running ∷ Closed ∷ Final ∷ []

-- the user, who must have an account
abbrev pub user_about : Target → Option (List ℕ)
user_about about.Session = None
user_about (about.Cell cell) = None
user_about (about.Board board) = None
user_about (about.NewUser name) = None
user_about (about.User name) = Some name
user_about (about.Assignment name role) = Some name
user_about (about.Inheritance senior junior) = None

-- the table and the board, which must be scheduled
abbrev pub cell_about : Target → Option Cell
cell_about about.Session = None
cell_about (about.Cell cell) = Some cell
cell_about (about.Board board) = None
cell_about (about.NewUser name) = None
cell_about (about.User name) = None
cell_about (about.Assignment name role) = None
cell_about (about.Inheritance senior junior) = None

-- the board as a whole, which must be one of the session
abbrev pub board_about : Target → Option ℕ
board_about about.Session = None
board_about (about.Cell cell) = None
board_about (about.Board board) = Some board
board_about (about.NewUser name) = None
board_about (about.User name) = None
board_about (about.Assignment name role) = None
board_about (about.Inheritance senior junior) = None
