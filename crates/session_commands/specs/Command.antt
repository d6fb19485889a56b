-- What each command needs before it is tried: a permission, a phase, and the user, the cell or the board that it is
-- about. Each is read off the command's row.
use Rattle.std.specs.Prelude.{ℕ, Bool, true, false, Option, is_none, List}
use Rattle.std.specs.List.{list_any}
use Rattle.movement.specs.declared.cell.Cell.{Cell}
use Rattle.session_roles.specs.declared.operation.Operation.{Operation}
use Rattle.disclosure_rules.specs.declared.phase.Phase.{Phase}
use Rattle.disclosure_rules.specs.declared.phase.Phase.TheVariants.{Running, Closed, Final}
use Rattle.session_commands.specs.declared.command.Command.{Command}
use Rattle.session_commands.specs.declared.command.Command.TheVariants.{Enter, Confirm}
use Rattle.session_commands.specs.declared.touched.Touched.{Touched}
use Rattle.session_commands.specs.Row.{command_row, operation_called, phases_when, user_about, cell_about, board_about}

-- the operation for which a user needs the permission; the solver's commands have none
abbrev pub operation_of : Command → Option Operation
operation_of command = operation_called (command_row command).word

-- whether it is one of the solver's
abbrev pub is_solvers : Command → Bool
is_solvers command = is_none (operation_of command)

-- the phases in which it is taken
abbrev pub phases_of : Command → List Phase
phases_of command = phases_when (command_row command).taken

-- the user that it is about, who must have an account
abbrev pub subject_user : Command → Option (List ℕ)
subject_user command = user_about (command_row command).target

-- the table and the board that it is about, which must be scheduled
abbrev pub subject_cell : Command → Option Cell
subject_cell command = cell_about (command_row command).target

-- the board that it is about as a whole, which must be one of the session
abbrev pub subject_board : Command → Option ℕ
subject_board command = board_about (command_row command).target

-- whom it may let see the hands of a board, who didn't see them before
abbrev pub touched_by : Command → Touched
touched_by command = (command_row command).touched

-- whether it tells a result that was played: a spoiled table may not
abbrev pub is_told_by_table : Command → Bool
is_told_by_table (Enter cell outcome play) = true
is_told_by_table (Confirm cell outcome) = true
is_told_by_table _ = false

-- whether two phases are one
abbrev pub same_phase : Phase → Phase → Bool
same_phase Running Running = true
same_phase Running Closed = false
same_phase Running Final = false
same_phase Closed Running = false
same_phase Closed Closed = true
same_phase Closed Final = false
same_phase Final Running = false
same_phase Final Closed = false
same_phase Final Final = true

-- whether a phase is among these
abbrev pub is_among : List Phase → Phase → Bool
is_among phases phase = list_any (same_phase phase) phases
