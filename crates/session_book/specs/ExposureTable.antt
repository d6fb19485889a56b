-- For private clauses: the table in which a book keeps who was shown something of which board.
use Rattle.std.specs.Prelude.{
  ◌≡◌,
  ℕ,
  ◌<◌,
  ◌≤◌,
  Bool,
  false,
  ◌||◌,
  ◌&&◌,
  nat_eq,
  nat_le,
  nat_lt,
  is_none,
  List,
  [],
  length,
  slice_index_or,
}
use Rattle.movement.specs.Movement.{boards_of, most_boards}
use Rattle.disclosure_rules.specs.LiveCells.{tables_at}
use Rattle.disclosure_rules.specs.Policy.{first_rule}
use Rattle.disclosure_rules.specs.Seating.{is_complete}
use Rattle.disclosure_rules.specs.declared.fact.Fact.TheVariants.{Hands}
use Rattle.disclosure_rules.specs.declared.public.Public.{Public}
use Rattle.disclosure_rules.specs.declared.viewer.Viewer.{Viewer}
use Rattle.small_sets.specs.Numbers.{has_number}
use Rattle.session_commands.specs.declared.entry.Entry.{Entry}
use Rattle.session_state.specs.SessionState.{SessionState}
use Rattle.session_book.specs.Exposure.{sees_hands, is_exposed, users_of}

-- whether the board is noted for the account at a place
abbrev pub is_noted : List (List ℕ) → ℕ → ℕ → Bool
is_noted table place board = has_number (slice_index_or table place []) board

-- the name of the user at a place
abbrev pub user_at : SessionState → ℕ → List ℕ
user_at state place = slice_index_or (users_of state) place []

-- the viewer sees the hands of just the boards that the user at a place sees
abbrev pub SeesAs : SessionState → ℕ → Viewer → Type 0
SeesAs state place viewer =
    (board : ℕ) → is_none (first_rule state.public viewer (Hands board))
    ≡ sees_hands state (user_at state place) board

-- no table has a result on the board, and it isn't complete
pub record IsUnplayed (public : Public) (board : ℕ) : Type 0 where
  pub nowhere : tables_at public.live board ≡ []
  pub incomplete : is_complete public board ≡ false

-- the table, after the policy was asked about some users and boards: a pair that was asked about is noted if it was, or
-- if the user is allowed the hands; the others are as they were
abbrev pub IsAsked : SessionState → (ℕ → ℕ → Bool) → List (List ℕ) → List (List ℕ) → Type 0
IsAsked state asked old new =
    (place board : ℕ) → 1 ≤ board → board ≤ most_boards →
    is_noted new place board
    ≡ (is_noted old place board || (asked place board && sees_hands state (user_at state place) board))

-- about one board, for the user at a place
abbrev pub one_board : ℕ → ℕ → ℕ → ℕ → Bool
one_board place board p b = nat_eq p place && nat_eq b board

-- about boards from 1 to the last, for the user at a place
abbrev pub first_boards : ℕ → ℕ → ℕ → ℕ → Bool
first_boards place last p b = nat_eq p place && (nat_le 1 b && nat_le b last)

-- about boards from 1 to the last, for each user before a place
abbrev pub first_users : ℕ → ℕ → ℕ → ℕ → Bool
first_users place last p b = nat_lt p place && (nat_le 1 b && nat_le b last)

-- after a journal that leads to the state, a board of the session is noted for an account exactly where its user is
-- exposed to it, and nothing is noted where there is no account yet
pub record IsNoted (opening : SessionState) (journal : List Entry) (state : SessionState) (table : List (List ℕ))
    : Type 0 where
  pub noted : (place board : ℕ) → place < length (users_of state) → 1 ≤ board →
      board ≤ boards_of opening.public.movement →
      is_noted table place board ≡ is_exposed opening journal (user_at state place) board
  pub later : (place board : ℕ) → length (users_of state) ≤ place → 1 ≤ board → board ≤ most_boards →
      is_noted table place board ≡ false
