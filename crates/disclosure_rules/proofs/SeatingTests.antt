-- The tests of seats and boards against what they mean.
use Rattle.std.proofs.Common.{◌≡◌, ℕ, ◌<◌, Bool, true, length, get_or, inl, inr, refl, sym, ◌∙◌, subst, Any}
use Rattle.std.specs.Prelude.{not, ◌||◌, Option, Some, None, IsSomeAnd}
use Rattle.std.specs.List.{list_any}
use Rattle.std.specs.Bool.{Decides}
use Rattle.std.proofs.lemmas.Bool.{
  false≢true,
  cases_Bool,
  or_cases,
  or_left,
  or_right,
  not-true,
  not_from_false,
  both_ways,
}
use Rattle.std.proofs.lemmas.Bool.Decides.{Decides-and}
use Rattle.std.proofs.lemmas.List.{get_or_default}
use Rattle.std.proofs.lemmas.List.Sums.{AllPass-from_list_all, list_all-from_AllPass}
use Rattle.movement.specs.declared.cell.Cell.{Cell}
use Rattle.movement.specs.declared.row.Row.{Row}
use Rattle.movement.specs.Movement.{Section, rows, IsOfSet, HasCell}
use Rattle.movement.specs.Schedule.{is_of_set, stands_in}
use Rattle.movement.proofs.ScheduleTests.{
  any_decides,
  of_set_decides,
  seats_decides,
  plays_decides,
  stands-has,
  has-stands,
}
use Rattle.disclosure_rules.specs.declared.public.Public.{Public}
use Rattle.disclosure_rules.specs.declared.seat.Seat.{Seat}
use Rattle.disclosure_rules.specs.declared.viewer.Viewer.{Viewer}
use Rattle.disclosure_rules.specs.LiveCells.{is_live}
use Rattle.disclosure_rules.specs.Seating.{
  some_that,
  some_row,
  SomeRow,
  cell_in,
  plays_board,
  PlaysBoard,
  has_still_to_play,
  HasStillToPlay,
  is_seated_at,
  IsSeatedAt,
  is_complete,
  IsComplete,
}

-- a test of some row at the user's seat says what its test of each row says
some_row_decides : (public : Public) (viewer : Viewer) (test : Seat → Row → Bool) (P : Seat → Row → Type 0) →
    ((seat : Seat) (row : Row) → Decides (test seat row) (P seat row)) → Decides (some_row public viewer test)
    (SomeRow public viewer P)
some_row_decides public viewer test P each = at_seat viewer.seat
  where
    at_seat : (seat : Option Seat) → Decides (some_that seat (λ s. list_any (test s) (rows public.movement)))
        (IsSomeAnd seat (λ s. Any (P s) (rows public.movement)))
    at_seat None = (λ test. false≢true test, λ none. absurd none)
    at_seat (Some seat) = any_decides (test seat) (P seat) (rows public.movement) (each seat)

-- the cell stands in the row
stands_decides : (section : Section) (cell : Cell) (row : Row) → Decides (stands_in section cell row)
    (HasCell section row cell)
stands_decides section cell row = (stands-has section cell row, has-stands section cell row)

-- a row leaves a board complete where it doesn't play the board, or its table has a result
complete_from : (public : Public) (board : ℕ) → is_complete public board ≡ true → IsComplete public board
unfolding is_complete
complete_from public board test cell (k, row, below, here, has) at_board =
    let passes = subst (λ (r : Row). (not (is_of_set public.movement r.set board) || is_live public.live
    (cell_in r board)) ≡ true) here (AllPass-from_list_all _ (rows public.movement) test k row below) in
    elim (or_cases _ _ passes) [
      | inl other ↦ absurd (both_ways _ (not-true _ other) ((of_set_decides public.movement row.set board).1
          (subst (IsOfSet public.movement row.set) at_board has.board)))
      | inr result ↦ (λ i. is_live public.live (record { table = sym has.table i; board = at_board i })) ∙ result
    ]

-- and a board that is complete passes the test
from_complete : (public : Public) (board : ℕ) → IsComplete public board → is_complete public board ≡ true
unfolding is_complete
from_complete public board complete = list_all-from_AllPass _ (rows public.movement) (λ k d below. passes k d below)
  where
    passes : (k : ℕ) (d : Row) → k < length (rows public.movement) →
        (not (is_of_set public.movement (get_or (rows public.movement) k d).set board) || is_live public.live
        (cell_in (get_or (rows public.movement) k d) board)) ≡ true
    passes k d below =
        let row : Row = get_or (rows public.movement) k d in
        elim (cases_Bool (is_of_set public.movement row.set board)) [
          | inl of_set ↦ or_right _ _
              (complete (cell_in row board) (
                k,
                row,
                below,
                get_or_default (rows public.movement) k row d below,
                record { table = refl; board = (of_set_decides public.movement row.set board).0 of_set },
              ) refl)
          | inr other ↦ or_left _ _ (not_from_false _ other)
        ]

-- every table that is scheduled to play the board has a result on it
pub complete_decides : (public : Public) (board : ℕ) → Decides (is_complete public board) (IsComplete public board)
complete_decides public board = (complete_from public board, from_complete public board)

-- the user sits in a pair that plays the board
pub plays_board_decides : (public : Public) (viewer : Viewer) (board : ℕ) → Decides (plays_board public viewer board)
    (PlaysBoard public viewer board)
unfolding plays_board
plays_board_decides public viewer board = some_row_decides public viewer _ _
    (λ seat. plays_decides public.movement seat.pair board)

-- the user sits in a pair that plays the board, and has no result on it yet
pub still_decides : (public : Public) (viewer : Viewer) (board : ℕ) → Decides (has_still_to_play public viewer board)
    (HasStillToPlay public viewer board)
unfolding has_still_to_play
still_decides public viewer board =
    some_row_decides public viewer _ _ (λ seat row. Decides-and _ _ (plays_decides public.movement seat.pair board row)
    (not-true _, not_from_false _))

-- the user sits in one of the two pairs that play the board at the table
pub seated_decides : (public : Public) (viewer : Viewer) (cell : Cell) → Decides (is_seated_at public viewer cell)
    (IsSeatedAt public viewer cell)
unfolding is_seated_at
seated_decides public viewer cell =
    some_row_decides public viewer _ _ (λ seat row. Decides-and _ _ (seats_decides row seat.pair)
    (stands_decides public.movement cell row))
