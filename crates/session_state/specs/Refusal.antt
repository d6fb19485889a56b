-- When a command is refused: the causes, in the order in which they are looked at.
--
-- own: the causes and their order are this project's. Nobody but who has the permission gives a command; a result is
-- told only of a board that the table is scheduled to play and that has come up, what is confirmed is what was entered,
-- and nobody sits there who was shown something of the board before.
use Rattle.std.specs.Prelude.{◌≡◌, ℕ, Bool, true, false, not, ◌&&◌, ◌||◌, nat_le, nat_lt}
use Rattle.std.specs.Prelude.{Option, None, IfSome, is_some, option_map, List, [], ◌∷◌, ◌++◌, length}
use Rattle.std.specs.Bool.{then_some}
use Rattle.std.specs.List.{list_all, range_with_len}
use Rattle.std.specs.Option.{option_map_or, option_or}
use Rattle.cards.specs.declared.card.Card.{Card}
use Rattle.movement.specs.Movement.{boards_of, has_board, is_pair_of}
use Rattle.movement.specs.Schedule.{is_scheduled, is_later}
use Rattle.rbac.specs.Account.{most_users, is_user_name}
use Rattle.rbac.specs.Authorization.{HasPermission, has_permission}
use Rattle.rbac.specs.Inheritance.{reaches}
use Rattle.rbac.specs.Refusals.{are_roles_of}
use Rattle.rbac.specs.RoleData.{RoleData, assign_user, deassign_user, add_inheritance, delete_inheritance}
use Rattle.session_roles.specs.Role.{is_role_of}
use Rattle.session_roles.specs.declared.role.Role.TheVariants.{Contestant}
use Rattle.scoring.specs.declared.outcome.Outcome.{Outcome}
use Rattle.scoring.specs.declared.outcome.Outcome.TheVariants.{PassedOut, Played}
use Rattle.small_sets.specs.Numbers.{has_number}
use Rattle.disclosure_rules.specs.Seating.{some_that, is_complete}
use Rattle.disclosure_rules.specs.declared.public.Public.{Public}
use Rattle.session_commands.specs.declared.command.Command.{Command}
use Rattle.session_commands.specs.declared.command.Command.TheVariants.{
  Enter,
  Confirm,
  Correct,
  Rule,
  Void,
  Hold,
  Release,
}
use Rattle.session_commands.specs.declared.command.Command.TheVariants.{Seat, Unseat, NextRound, Close, Finalise}
use Rattle.session_commands.specs.declared.command.Command.TheVariants.{AddUser, Assign, Deassign, AddInheritance}
use Rattle.session_commands.specs.declared.command.Command.TheVariants.{DeleteInheritance, Solved, Analysed}
use Rattle.session_commands.specs.declared.command.Command.TheVariants.{Embargo, Lift, Rename}
use Rattle.session_commands.specs.declared.refusal.Refusal.{Refusal}
use Rattle.session_commands.specs.declared.refusal.Refusal.TheVariants.{
  NotPermitted,
  NoSuchUser,
  NoSuchCell,
  NoSuchBoard,
}
use Rattle.session_commands.specs.declared.refusal.Refusal.TheVariants.{
  WrongPhase,
  RoundNotStarted,
  BadResult,
  AlreadyLive,
}
use Rattle.session_commands.specs.declared.refusal.Refusal.TheVariants.{NothingEntered, Mismatch, NotLive, BadRuling}
use Rattle.session_commands.specs.declared.refusal.Refusal.TheVariants.{
  AlreadyHeld,
  NotHeld,
  NoSuchPair,
  WrongDirection,
}
use Rattle.session_commands.specs.declared.refusal.Refusal.TheVariants.{
  NotContestant,
  AlreadySeated,
  SeatTaken,
  NotSeated,
}
use Rattle.session_commands.specs.declared.refusal.Refusal.TheVariants.{NoMoreRounds, NotAllLive, BadName, UserExists}
use Rattle.session_commands.specs.declared.refusal.Refusal.TheVariants.{TooManyUsers, AlreadyAssigned, Separation}
use Rattle.session_commands.specs.declared.refusal.Refusal.TheVariants.{
  NotAssigned,
  StillSeated,
  LastAdministrator,
  Cycle,
}
use Rattle.session_commands.specs.declared.refusal.Refusal.TheVariants.{
  AlreadyThere,
  NotThere,
  StrangeDeal,
  AlreadySolved,
  StrangePlay,
}
use Rattle.session_commands.specs.declared.refusal.Refusal.TheVariants.{JournalFull}
use Rattle.session_commands.specs.declared.refusal.Refusal.TheVariants.{AlreadyEmbargoed, NotEmbargoed, NoSuchRole}
use Rattle.session_state.specs.Accounts.{
  has_account,
  is_assigned,
  is_authorized_for,
  has_administrator,
  seats_a_stranger,
}
use Rattle.session_state.specs.declared.acceptance.TheConstants.{MOST_ENTRIES}
use Rattle.session_state.specs.Accounts.{first_broken, has_pair}
use Rattle.session_commands.specs.CellState.{has_result, is_empty, is_entered_otherwise, is_played_as, is_counted}
use Rattle.session_commands.specs.Command.{
  operation_of,
  is_solvers,
  phases_of,
  subject_user,
  subject_cell,
  subject_board,
}
use Rattle.session_commands.specs.Command.{is_among}
use Rattle.session_commands.specs.Refusal.{spoiled}
use Rattle.session_commands.specs.declared.actor.Actor.{Actor}
use Rattle.session_commands.specs.declared.actor.Actor.TheVariants.{User, Solver}
use Rattle.cards.specs.PlayedCards.{has_card, has_repeat}
use Rattle.session_state.specs.Seats.{is_of_side, has_seat, is_taken}
use Rattle.session_state.specs.SessionState.{SessionState, cell_at, table_at, is_dealt}

-- how many entries a journal has at most
abbrev pub most_entries : ℕ
most_entries = MOST_ENTRIES

-- the first of the causes that is met; a cause that isn't met is none
abbrev pub first_cause : {Cause : Type 0} → List (Option Cause) → Option Cause
first_cause [] = None
first_cause (cause ∷ causes) = option_or cause (first_cause causes)

-- whether all four players passed
abbrev pub is_passed_out : Outcome → Bool
is_passed_out PassedOut = true
is_passed_out (Played contract tricks) = false

-- whether an outcome and a play can't be: the play has a card twice, or cards were played on a passed-out board
abbrev pub is_bad_result : Outcome → List Card → Bool
is_bad_result outcome play = has_repeat play || (is_passed_out outcome && has_card play)

-- whether a ruling can't be: a percentage is over 100, or the reason isn't one of 1 to 99
abbrev pub is_bad_ruling : ℕ → ℕ → ℕ → Bool
is_bad_ruling north_south east_west reason =
    nat_lt 100 north_south || nat_lt 100 east_west || not (nat_le 1 reason && nat_le reason 99)

-- whether every table has a result on every board that it is scheduled to play
unfoldable pub are_all_live : Public → Bool
are_all_live public = list_all (is_complete public) (range_with_len 1 (boards_of public.movement))

-- the causes by which authorization may not be taken away, by what the roles would be: a seated user would no longer be
-- authorized for Contestant, or nobody for Administrator
abbrev pub needed_causes : SessionState → RoleData → List (Option Refusal)
needed_causes state after =
    then_some (seats_a_stranger after state.seats) StillSeated
    ∷ then_some (not (has_administrator after)) LastAdministrator
    ∷ []

-- the causes of each command's own, in their order
abbrev pub own_causes : SessionState → Command → List (Option Refusal)
own_causes state (Enter cell outcome play) =
    let known = cell_at state cell in
    then_some (is_bad_result outcome play) BadResult ∷ then_some (has_result known) AlreadyLive ∷ []
own_causes state (Confirm cell outcome) =
    let known = cell_at state cell in
    then_some (has_result known) AlreadyLive
    ∷ then_some (is_empty known) NothingEntered
    ∷ then_some (is_entered_otherwise known outcome) Mismatch
    ∷ []
own_causes state (Correct cell outcome play) =
    let known = cell_at state cell in
    then_some (is_bad_result outcome play) BadResult ∷ then_some (not (has_result known)) NotLive ∷ []
own_causes state (Rule cell north_south east_west reason) =
    then_some (is_bad_ruling north_south east_west reason) BadRuling ∷ []
own_causes state (Void cell) =
    let known = cell_at state cell in
    then_some (not (has_result known)) NotLive ∷ []
own_causes state (Hold board) = then_some (has_number state.public.held board) AlreadyHeld ∷ []
own_causes state (Release board) = then_some (not (has_number state.public.held board)) NotHeld ∷ []
own_causes state (Seat name pair place) =
    then_some (not (is_pair_of state.public.movement pair)) NoSuchPair
    ∷ then_some (not (is_of_side pair place)) WrongDirection
    ∷ then_some (not (is_authorized_for state.roles name Contestant)) NotContestant
    ∷ then_some (has_seat state.seats name) AlreadySeated
    ∷ then_some (is_taken state.seats (record { pair = pair; place = place })) SeatTaken
    ∷ []
own_causes state (Unseat name) = then_some (not (has_seat state.seats name)) NotSeated ∷ []
own_causes state NextRound =
    then_some (nat_le state.public.movement.rounds state.public.round) NoMoreRounds ∷ []
own_causes state Close = then_some (not (are_all_live state.public)) NotAllLive ∷ []
own_causes state Finalise = then_some (not (are_all_live state.public)) NotAllLive ∷ []
own_causes state (AddUser name digest) =
    then_some (not (is_user_name name)) BadName
    ∷ then_some (has_account state.roles name) UserExists
    ∷ then_some (nat_le most_users (length state.roles.accounts)) TooManyUsers
    ∷ []
own_causes state (Assign name role) =
    then_some (not (is_role_of state.roles.edition role)) NoSuchRole
    ∷ then_some (is_assigned state.roles name role) AlreadyAssigned
    ∷ option_map Separation (first_broken (assign_user state.roles name role))
    ∷ []
own_causes state (Deassign name role) =
    then_some (not (is_role_of state.roles.edition role)) NoSuchRole
    ∷ then_some (not (is_assigned state.roles name role)) NotAssigned
    ∷ needed_causes state (deassign_user state.roles name role)
own_causes state (AddInheritance senior junior) =
    then_some (not (are_roles_of state.roles.edition senior junior)) NoSuchRole
    ∷ then_some (reaches state.roles.pairs junior senior) Cycle
    ∷ then_some (has_pair state.roles senior junior) AlreadyThere
    ∷ option_map Separation (first_broken (add_inheritance state.roles senior junior))
    ∷ []
own_causes state (DeleteInheritance senior junior) =
    then_some (not (are_roles_of state.roles.edition senior junior)) NoSuchRole
    ∷ then_some (not (has_pair state.roles senior junior)) NotThere
    ∷ needed_causes state (delete_inheritance state.roles senior junior)
-- a table is of the board's own hands; costs are of the cell's own hands, contract and play
own_causes state (Solved board table) =
    then_some (not (is_dealt state board table)) StrangeDeal
    ∷ then_some (is_some (table_at state board)) AlreadySolved
    ∷ []
own_causes state (Analysed cell costs) =
    let known = cell_at state cell in
    then_some (not (has_result known)) NotLive
    ∷ then_some (not (is_dealt state cell.board costs.deal && is_played_as known costs.contract costs.play)) StrangePlay
    ∷ then_some (is_counted known) AlreadySolved
    ∷ []
own_causes state Embargo = then_some state.public.embargo AlreadyEmbargoed ∷ []
own_causes state Lift = then_some (not state.public.embargo) NotEmbargoed ∷ []
own_causes state (Rename name shown) = []

-- whether the round of its cell is still to come; the solver's commands wait for none, since a result is there or isn't
abbrev pub is_early : SessionState → Command → Bool
is_early state command =
    not (is_solvers command)
    && some_that (subject_cell command) (λ cell. is_later state.public.movement cell state.public.round)

-- the causes that lie in the command and the state, in their order: an entry that meets one of them leaves the state as
-- it is
abbrev pub hindrances : SessionState → Command → List (Option Refusal)
hindrances state command =
    then_some (some_that (subject_user command) (λ name. not (has_account state.roles name))) NoSuchUser
    ∷ then_some (some_that (subject_cell command) (λ cell. not (is_scheduled state.public.movement cell))) NoSuchCell
    ∷ then_some (some_that (subject_board command) (λ board. not (has_board state.public.movement board))) NoSuchBoard
    ∷ then_some (not (is_among (phases_of command) state.public.phase)) WrongPhase
    ∷ then_some (is_early state command) RoundNotStarted
    ∷ own_causes state command

-- whether who gives a command may: a user who has the permission for its operation, or the solver for one of its own.
-- The solver's commands have no operation, so whoever gives one may: what they tell is looked at instead, as a table or
-- costs are exhaustive by their type, and are refused unless they are of the session's own hands and play
abbrev pub is_permitted : RoleData → Actor → Command → Bool
is_permitted roles (User name) command = option_map_or (has_permission roles name) (operation_of command) true
is_permitted roles Solver command = is_solvers command

-- the same, as the standard states it
abbrev pub MayGive : RoleData → Actor → Command → Type 0
MayGive roles (User name) command = IfSome (operation_of command) (HasPermission roles name)
MayGive roles Solver command = operation_of command ≡ None

-- all causes, in their order: first whether it is permitted, last whether the journal is full
abbrev pub causes : SessionState → Option (List ℕ) → Actor → Command → ℕ → List (Option Refusal)
causes state spoiler actor command entries =
    then_some (not (is_permitted state.roles actor command)) NotPermitted
    ∷ (hindrances state command
    ++ spoiled command spoiler ∷ then_some (nat_le most_entries entries) JournalFull ∷ [])

-- the first cause that leaves the state as it is, if one is met
unfoldable pub hindrance_of : SessionState → Command → Option Refusal
hindrance_of state command = first_cause (hindrances state command)

-- the first cause to refuse a command, over a state to which a journal of so many entries leads, if one is met; the
-- spoiler is the first user who sits at the command's cell and was shown something of its board, if there is one
unfoldable pub refusal_of : SessionState → Option (List ℕ) → Actor → Command → ℕ → Option Refusal
refusal_of state spoiler actor command entries = first_cause (causes state spoiler actor command entries)
