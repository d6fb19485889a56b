-- Whom a command may let see the hands of a board, who didn't see them before: nobody else is asked about after it.
-- What each command touches is told by its row.
use Rattle.std.specs.Prelude.{ℕ, Bool, true, false, ◌&&◌, nat_eq, nat_le, nat_lt, List}
use Rattle.rbac.specs.Account.{same_name}
use Rattle.session_state.specs.SessionState.{SessionState}
use Rattle.session_commands.specs.declared.touched.Touched.{Touched}
use Rattle.session_commands.specs.declared.touched.Touched.TheVariants.{Nothing, Board, User, Everything}
use Rattle.session_book.specs.ExposureTable.{user_at}

-- whether it touches what a user sees of a board
abbrev pub is_touched : Touched → List ℕ → ℕ → Bool
is_touched Nothing user board = false
is_touched (Board touched) user board = nat_eq board touched
is_touched (User name) user board = same_name user name
is_touched Everything user board = true

-- ---- for private clauses

-- whether it touches what the user at a place sees of a board, from 1 to the last
abbrev pub is_touched_at : SessionState → Touched → ℕ → ℕ → ℕ → Bool
is_touched_at state touched last p b = (nat_le 1 b && nat_le b last) && is_touched touched (user_at state p) b

-- about what is touched, for the user at a place
abbrev pub touched_at : SessionState → Touched → ℕ → ℕ → ℕ → ℕ → Bool
touched_at state touched last place p b = nat_eq p place && is_touched_at state touched last p b

-- about what is touched, for each user before a place
abbrev pub touched_before : SessionState → Touched → ℕ → ℕ → ℕ → ℕ → Bool
touched_before state touched last place p b = nat_lt p place && is_touched_at state touched last p b
