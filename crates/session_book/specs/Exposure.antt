-- Who was shown something of which board, and which results that spoils.
--
-- own: who was shown something of a board plays it no more. It keeps what Law 16D asks of a player (no information from
-- elsewhere about a board that is still to be played): no result is entered or confirmed at a cell where such a user
-- sits.
use Rattle.std.specs.Prelude.{
  ◌≡◌,
  ℕ,
  Bool,
  ◌&&◌,
  if◌then◌else◌,
  Option,
  Some,
  None,
  is_none,
  List,
  [],
  ◌∷◌,
  ◌++◌,
  map,
  find,
  option_and_then,
}
use Rattle.std.specs.List.{list_any}
use Rattle.movement.specs.declared.cell.Cell.{Cell}
use Rattle.disclosure_rules.specs.declared.fact.Fact.{Fact}
use Rattle.disclosure_rules.specs.declared.fact.Fact.TheVariants.{Hands}
use Rattle.disclosure_rules.specs.Fact.{board_of_fact}
use Rattle.disclosure_rules.specs.Policy.{first_rule}
use Rattle.disclosure_rules.specs.Seating.{is_seated_at}
use Rattle.session_commands.specs.declared.command.Command.{Command}
use Rattle.session_commands.specs.Command.{subject_cell, is_told_by_table}
use Rattle.session_commands.specs.declared.entry.Entry.{Entry}
use Rattle.session_state.specs.SessionState.{SessionState, viewer_of}
use Rattle.session_book.specs.Replay.{replay}

-- some secret fact of the board is allowed to the user
pub record SomeAllowed (state : SessionState) (user : List ℕ) (board : ℕ) : Type 0 where
  pub fact : Fact
  pub of_board : board_of_fact fact ≡ Some board
  pub allowed : first_rule state.public (viewer_of state user) fact ≡ None

-- some secret fact of the board was allowed to the user after some first part of the journal, the empty one and the
-- whole journal included
pub record Exposed (opening : SessionState) (journal : List Entry) (user : List ℕ) (board : ℕ) : Type 0 where
  pub first : List Entry
  pub later : List Entry
  pub split : journal ≡ first ++ later
  pub shown : SomeAllowed (replay opening first) user board

-- whether the hands of the board are allowed to the user: where some secret fact of a board is, its hands are
abbrev pub sees_hands : SessionState → List ℕ → ℕ → Bool
sees_hands state user board = is_none (first_rule state.public (viewer_of state user) (Hands board))

-- the first parts of a journal, from the empty one to the whole
abbrev pub first_parts : List Entry → List (List Entry)
first_parts [] = [] ∷ []
first_parts (entry ∷ entries) = [] ∷ map (λ part. entry ∷ part) (first_parts entries)

-- whether the user is exposed to the board
unfoldable pub is_exposed : SessionState → List Entry → List ℕ → ℕ → Bool
is_exposed opening journal user board =
    list_any (λ part. sees_hands (replay opening part) user board) (first_parts journal)

-- the names of the users, in order of the accounts
abbrev pub users_of : SessionState → List (List ℕ)
users_of state = map (λ account. account.name) state.roles.accounts

-- the cell whose result the command enters or confirms, if it does so
abbrev pub result_cell : Command → Option Cell
result_cell command = if is_told_by_table command then subject_cell command else None

-- whether the user is exposed to the board of the cell, and sits there now in one of its two pairs
abbrev pub spoils : SessionState → List Entry → Cell → List ℕ → Bool
spoils opening journal cell user =
    let state = replay opening journal in
    is_exposed opening journal user cell.board && is_seated_at state.public (viewer_of state user) cell

-- the first such user, in order of the accounts, if there is one
abbrev pub spoiler_at : SessionState → List Entry → Cell → Option (List ℕ)
spoiler_at opening journal cell = find (spoils opening journal cell) (users_of (replay opening journal))

-- who spoils the result that a command enters or confirms after a journal, if somebody does
abbrev pub spoiler_of : SessionState → List Entry → Command → Option (List ℕ)
spoiler_of opening journal command = option_and_then (spoiler_at opening journal) (result_cell command)
