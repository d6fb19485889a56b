-- What an entry makes of a state, and which part of it. A line for each command, in the order of the commands.
use Rattle.std.specs.Prelude.{
  ◌+◌,
  ◌-◌,
  ◌++◌,
  true,
  false,
  [],
  ◌∷◌,
  Some,
  None,
  is_some,
  slice_set,
  if◌then◌else◌,
}
use Rattle.movement.specs.declared.cell.Cell.{Cell}
use Rattle.movement.specs.Movement.{most_boards}
use Rattle.rbac.specs.RoleData.{RoleData, add_user, assign_user, deassign_user, add_inheritance, delete_inheritance}
use Rattle.disclosure_rules.specs.declared.phase.Phase.TheVariants.{Closed, Final}
use Rattle.disclosure_rules.specs.declared.public.Public.{Public}
use Rattle.disclosure_rules.specs.LiveCells.{with_live, without_live}
use Rattle.small_sets.specs.Numbers.{with_number, without_number}
use Rattle.session_commands.specs.declared.command.Command.{Command}
use Rattle.session_commands.specs.declared.command.Command.TheVariants.{
  Enter,
  Confirm,
  Correct,
  Rule,
  Void,
  Hold,
  Release,
}
use Rattle.session_commands.specs.declared.command.Command.TheVariants.{Seat, Unseat, NextRound, Close, Finalise}
use Rattle.session_commands.specs.declared.command.Command.TheVariants.{AddUser, Assign, Deassign, AddInheritance}
use Rattle.session_commands.specs.declared.command.Command.TheVariants.{DeleteInheritance, Solved, Analysed}
use Rattle.session_commands.specs.declared.command.Command.TheVariants.{Embargo, Lift, Rename}
use Rattle.session_commands.specs.declared.cell_state.CellState.{CellState}
use Rattle.session_commands.specs.declared.cell_state.CellState.TheVariants.{Empty, Entered, Confirmed, Ruled}
use Rattle.session_commands.specs.declared.entry.Entry.{Entry}
use Rattle.session_commands.specs.CellState.{with_costs}
use Rattle.session_state.specs.Parts.{
  Part,
  Results,
  HeldBoards,
  Seats,
  Rounds,
  Phases,
  Accounts,
  Hierarchy,
  Tables,
  Embargoes,
  Names,
}
use Rattle.session_state.specs.Refusal.{hindrance_of}
use Rattle.session_state.specs.Seats.{without_seat}
use Rattle.session_state.specs.Readers.{account_place}
use Rattle.session_state.specs.SessionState.{SessionState, cell_at, with_cell}

-- with another part that every member may see
abbrev pub with_public : SessionState → Public → SessionState
with_public state public = record state { public = public }

-- with other accounts and another role hierarchy
abbrev pub with_roles : SessionState → RoleData → SessionState
with_roles state roles = record state { roles = roles }

-- with a result at a cell
abbrev pub with_result : SessionState → Cell → CellState → SessionState
with_result state cell known =
    with_public (with_cell state cell known) (record state.public { live = with_live state.public.live cell })

-- with nothing known of a cell
abbrev pub without_result : SessionState → Cell → SessionState
without_result state cell =
    with_public (with_cell state cell Empty) (record state.public { live = without_live state.public.live cell })

-- what is entered, if anything is, becomes the result, with its play
abbrev pub confirmed : SessionState → Cell → CellState → SessionState
confirmed state cell Empty = state
confirmed state cell (Entered outcome play) = with_result state cell (Confirmed outcome play None)
confirmed state cell (Confirmed outcome play costs) = state
confirmed state cell (Ruled north_south east_west reason) = state

-- what each command does
abbrev pub effect : SessionState → Command → SessionState
-- to enter is to set what is entered, or to replace it; to confirm makes it the result
effect state (Enter cell outcome play) = with_cell state cell (Entered outcome play)
effect state (Confirm cell outcome) = confirmed state cell (cell_at state cell)
-- a correction and a ruling are results, and what was counted of the one before is gone; to void takes the result away
effect state (Correct cell outcome play) = with_result state cell (Confirmed outcome play None)
effect state (Rule cell north_south east_west reason) = with_result state cell (Ruled north_south east_west reason)
effect state (Void cell) = without_result state cell
effect state (Hold board) =
    with_public state (record state.public { held = with_number most_boards state.public.held board })
effect state (Release board) =
    with_public state (record state.public { held = without_number most_boards state.public.held board })
effect state (Seat name pair place) =
    record state { seats = state.seats ++ record { name = name; seat = record { pair = pair; place = place } } ∷ [] }
effect state (Unseat name) = record state { seats = without_seat state.seats name }
effect state NextRound = with_public state (record state.public { round = state.public.round + 1 })
effect state Close = with_public state (record state.public { phase = Closed })
effect state Finalise = with_public state (record state.public { phase = Final })
-- a new user has no name to show
effect state (AddUser name digest) =
    record state {
      roles = add_user state.roles name;
      digests = state.digests ++ digest ∷ [];
      names = state.names ++ [] ∷ [];
    }
effect state (Assign name role) = with_roles state (assign_user state.roles name role)
effect state (Deassign name role) = with_roles state (deassign_user state.roles name role)
effect state (AddInheritance senior junior) = with_roles state (add_inheritance state.roles senior junior)
effect state (DeleteInheritance senior junior) = with_roles state (delete_inheritance state.roles senior junior)
-- what is solved is kept: a board's table for good, a cell's costs until its result is another
effect state (Solved board table) = record state { tables = slice_set state.tables (board - 1) (Some table) }
effect state (Analysed cell costs) = with_cell state cell (with_costs (cell_at state cell) costs)
-- an embargo begins, and ends
effect state Embargo = with_public state (record state.public { embargo = true })
effect state Lift = with_public state (record state.public { embargo = false })
-- the user's name to show is another, or the empty text, which is none
effect state (Rename name shown) =
    record state { names = slice_set state.names (account_place state.roles.accounts name) shown }

-- the part of a state that it is about: it changes no other
abbrev pub part_of : Command → Part
part_of (Enter cell outcome play) = Results
part_of (Confirm cell outcome) = Results
part_of (Correct cell outcome play) = Results
part_of (Rule cell north_south east_west reason) = Results
part_of (Void cell) = Results
part_of (Hold board) = HeldBoards
part_of (Release board) = HeldBoards
part_of (Seat name pair place) = Seats
part_of (Unseat name) = Seats
part_of NextRound = Rounds
part_of Close = Phases
part_of Finalise = Phases
part_of (AddUser name digest) = Accounts
part_of (Assign name role) = Accounts
part_of (Deassign name role) = Accounts
part_of (AddInheritance senior junior) = Hierarchy
part_of (DeleteInheritance senior junior) = Hierarchy
part_of (Solved board table) = Tables
part_of (Analysed cell costs) = Results
part_of Embargo = Embargoes
part_of Lift = Embargoes
part_of (Rename name shown) = Names

-- what an entry does: nothing where the state hinders it
abbrev pub apply : SessionState → Entry → SessionState
apply state entry = if is_some (hindrance_of state entry.command) then state else effect state entry.command
