-- Who plays which board, and which boards are complete: each as a test, with what it means in terms of the rows of the
-- movement beside it. To have played a board is to have a confirmed result, or a ruling, on it.
use Rattle.std.specs.Prelude.{◌≡◌, ℕ, Bool, true, false, not, ◌&&◌, ◌||◌, Option, Some, None, Any, IsSomeAnd}
use Rattle.std.specs.List.{list_any, list_all}
use Rattle.movement.specs.declared.cell.Cell.{Cell}
use Rattle.movement.specs.declared.row.Row.{Row}
use Rattle.movement.specs.Movement.{rows, HasCell, IsCell}
use Rattle.movement.specs.Row.{Seats, Plays}
use Rattle.movement.specs.Schedule.{is_of_set, stands_in, seats, plays}
use Rattle.disclosure_rules.specs.declared.public.Public.{Public}
use Rattle.disclosure_rules.specs.declared.seat.Seat.{Seat}
use Rattle.disclosure_rules.specs.declared.viewer.Viewer.{Viewer}
use Rattle.disclosure_rules.specs.LiveCells.{is_live}

-- whether there is a value that passes the test
abbrev pub some_that : {A : Type 0} → Option A → (A → Bool) → Bool
some_that None test = false
some_that (Some x) test = test x

-- whether the user sits somewhere, and some row of the movement passes the test at that seat
abbrev pub some_row : Public → Viewer → (Seat → Row → Bool) → Bool
some_row public viewer test = some_that viewer.seat (λ seat. list_any (test seat) (rows public.movement))

-- the user sits somewhere, and the fact holds of some row of the movement at that seat
abbrev pub SomeRow : Public → Viewer → (Seat → Row → Type 0) → Type 0
SomeRow public viewer P = IsSomeAnd viewer.seat (λ seat. Any (P seat) (rows public.movement))

-- the table of a row, on a board
abbrev pub cell_in : Row → ℕ → Cell
cell_in row board = record { table = row.table; board = board }

-- whether the user sits in a pair that plays the board
unfoldable pub plays_board : Public → Viewer → ℕ → Bool
plays_board public viewer board = some_row public viewer (λ seat. plays public.movement seat.pair board)

abbrev pub PlaysBoard : Public → Viewer → ℕ → Type 0
PlaysBoard public viewer board = SomeRow public viewer (λ seat row. Plays public.movement row seat.pair board)

-- whether the user sits in a pair that plays the board, and has no result on it yet
unfoldable pub has_still_to_play : Public → Viewer → ℕ → Bool
has_still_to_play public viewer board =
    some_row public viewer (λ seat row.
    plays public.movement seat.pair board row && not (is_live public.live (cell_in row board)))

abbrev pub HasStillToPlay : Public → Viewer → ℕ → Type 0
HasStillToPlay public viewer board =
    SomeRow public viewer (λ seat row.
    Plays public.movement row seat.pair board × (is_live public.live (cell_in row board) ≡ false))

-- whether the user sits in one of the two pairs that play the board at the table
unfoldable pub is_seated_at : Public → Viewer → Cell → Bool
is_seated_at public viewer cell =
    some_row public viewer (λ seat row. seats row seat.pair && stands_in public.movement cell row)

abbrev pub IsSeatedAt : Public → Viewer → Cell → Type 0
IsSeatedAt public viewer cell =
    SomeRow public viewer (λ seat row. Seats row seat.pair × HasCell public.movement row cell)

-- whether every table that is scheduled to play the board has a result on it
unfoldable pub is_complete : Public → ℕ → Bool
is_complete public board =
    list_all (λ row. not (is_of_set public.movement row.set board) || is_live public.live (cell_in row board))
    (rows public.movement)

abbrev pub IsComplete : Public → ℕ → Type 0
IsComplete public board =
    (cell : Cell) → IsCell public.movement cell → cell.board ≡ board → is_live public.live cell ≡ true
