-- Who plays a board, from the one table where a user plays it.
use Rattle.std.proofs.Common.{◌≡◌, ℕ, true, false, refl, sym, ap, ◌∙◌, subst, Any, Contains}
use Rattle.std.specs.Prelude.{is_some, IfSome, IfNone, Option, Some, None, IsSomeAnd, not, nat_eq}
use Rattle.std.proofs.lemmas.Bool.{false_from_ne_true, not-true, not_from_false, eqb-true, eq-eqb}
use Rattle.std.proofs.lemmas.Bool.Decides.{same_from_decides}
use Rattle.table_terms.specs.declared.pair.Pair.{Pair}
use Rattle.movement.specs.declared.cell.Cell.{Cell}
use Rattle.movement.specs.declared.row.Row.{Row}
use Rattle.movement.specs.Movement.{Section, IsSection, rows, HasCell, IsOfSet}
use Rattle.movement.specs.Row.{Seats, Plays}
use Rattle.movement.proofs.MovementLemmas.{same_play}
use Rattle.movement.proofs.ScheduleTests.{any_as}
use Rattle.disclosure_rules.specs.declared.public.Public.{Public}
use Rattle.disclosure_rules.specs.declared.seat.Seat.{Seat}
use Rattle.disclosure_rules.specs.declared.viewer.Viewer.{Viewer}
use Rattle.disclosure_rules.specs.LiveCells.{is_live}
use Rattle.disclosure_rules.specs.Seating.{
  SomeRow,
  cell_in,
  plays_board,
  PlaysBoard,
  has_still_to_play,
  HasStillToPlay,
  is_seated_at,
  IsSeatedAt,
}
use Rattle.disclosure_rules.proofs.SeatingTests.{plays_board_decides, still_decides, seated_decides}

-- a fact of some row at the user's seat, from what holds of each row there
with_row : (public : Public) (viewer : Viewer) (P Q : Seat → Row → Type 0) →
    ((seat : Seat) → Any (P seat) (rows public.movement) → Any (Q seat) (rows public.movement)) → SomeRow public viewer
    P → SomeRow public viewer Q
with_row public viewer P Q gives = at_seat viewer.seat
  where
    at_seat : (seat : Option Seat) → IsSomeAnd seat (λ s. Any (P s) (rows public.movement)) → IsSomeAnd seat
        (λ s. Any (Q s) (rows public.movement))
    at_seat None none = none
    at_seat (Some seat) some = gives seat some

-- the table stands in a row that seats the pair: so the pair plays its board there
pub plays_of : (section : Section) (row : Row) (pair : Pair) (cell : Cell) (board : ℕ) → cell.board ≡ board →
    Seats row pair × HasCell section row cell → Plays section row pair board
plays_of section row pair cell board at_board (seated, has) =
    record { seated = seated; board = subst (IsOfSet section row.set) at_board has.board }

-- the table where a pair plays a board is that of any row in which it does
pub one_table : (section : Section) (pair : Pair) (cell : Cell) (board : ℕ) → IsSection section → cell.board ≡ board →
    Any (λ row. Seats row pair × HasCell section row cell) (rows section) → (row : Row) → Contains (rows section) row →
    Plays section row pair board → row.table ≡ cell.table
one_table section pair cell board is_section at_board (k, own, below, here, stands) row listed plays =
    ap (λ (r : Row). r.table) (same_play section row own pair board is_section listed (k, below, here) plays
    (plays_of section own pair cell board at_board stands))
    ∙ stands.1.table

module _ (public : Public) (viewer : Viewer) (own : Cell) (seated : IsSeatedAt public viewer own) where
  -- a user who is seated at a table plays its board
  plays_where_seated : (board : ℕ) → own.board ≡ board → true ≡ plays_board public viewer board
  plays_where_seated board at_board =
      sym ((plays_board_decides public viewer board).1 (with_row public viewer _ _ (λ seat found.
      any_as _ _ (rows public.movement) (λ row stands. plays_of public.movement row seat.pair own board at_board stands)
      found) seated))

  -- and has still to play it exactly where there is no result at that table
  pub still_where_seated : (board : ℕ) → own.board ≡ board → IsSection public.movement →
      not (is_live public.live own) ≡ has_still_to_play public viewer board
  still_where_seated board at_board is_section =
      same_from_decides {P = HasStillToPlay public viewer board} _ _
      (λ not_live. still (not-true _ not_live), λ waits. not_from_false _ (no_result viewer.seat seated waits))
      (still_decides public viewer board)
    where
      still : is_live public.live own ≡ false → HasStillToPlay public viewer board
      still not_live = with_row public viewer _ _ (λ seat found.
          any_as _ _ (rows public.movement) (λ row stands. (
            plays_of public.movement row seat.pair own board at_board stands,
            (λ i. is_live public.live (record { table = stands.1.table i; board = sym at_board i })) ∙ not_live,
          )) found) seated

      no_result : (seat : Option Seat) → IsSomeAnd seat
          (λ s. Any (λ row. Seats row s.pair × HasCell public.movement row own) (rows public.movement)) →
          IsSomeAnd seat
          (λ s. Any (λ row. Plays public.movement row s.pair board ×
          (is_live public.live (cell_in row board) ≡ false)) (rows public.movement)) →
          is_live public.live own ≡ false
      no_result None found waits = absurd found
      no_result (Some s) found (k, row, below, here, waits) =
          let table : row.table ≡ own.table = one_table public.movement s.pair own board is_section at_board found row
          (k, below, here) waits.0 in
          (λ i. is_live public.live (record { table = sym table i; board = at_board i })) ∙ waits.1

  -- and is seated at no other table on that board
  pub seated_at_one : (cell : Cell) → own.board ≡ cell.board → IsSection public.movement →
      nat_eq own.table cell.table ≡ is_seated_at public viewer cell
  seated_at_one cell at_board is_section =
      same_from_decides {P = IsSeatedAt public viewer cell} _ _
      (λ same. at (eqb-true _ _ same), λ there. eq-eqb _ _ (table viewer.seat seated there))
      (seated_decides public viewer cell)
    where
      at : own.table ≡ cell.table → IsSeatedAt public viewer cell
      at same = subst (IsSeatedAt public viewer) (λ i. record { table = same i; board = at_board i }) seated

      table : (seat : Option Seat) → IsSomeAnd seat
          (λ s. Any (λ row. Seats row s.pair × HasCell public.movement row own) (rows public.movement)) →
          IsSomeAnd seat (λ s. Any (λ row. Seats row s.pair × HasCell public.movement row cell)
          (rows public.movement)) → own.table ≡ cell.table
      table None found there = absurd found
      table (Some s) found (k, row, below, here, stands) =
          sym (one_table public.movement s.pair own cell.board is_section at_board found row (k, below, here)
          (plays_of public.movement row s.pair cell cell.board refl stands))
          ∙ stands.1.table

module _ (public : Public) (viewer : Viewer) (board : ℕ) (none : ¬ PlaysBoard public viewer board) where
  -- a user who doesn't play a board
  plays_not : false ≡ plays_board public viewer board
  plays_not = sym (false_from_ne_true _ (λ test. none ((plays_board_decides public viewer board).0 test)))

  -- has not still to play it
  pub still_not : false ≡ has_still_to_play public viewer board
  still_not = sym (false_from_ne_true _ (λ test. none (with_row public viewer _ _ (λ seat found.
      any_as _ _ (rows public.movement) (λ row waits. waits.0) found) ((still_decides public viewer board).0 test))))

  -- and is seated at no table on it
  pub seated_not : (cell : Cell) → cell.board ≡ board → false ≡ is_seated_at public viewer cell
  seated_not cell at_board = sym (false_from_ne_true _ (λ test. none (with_row public viewer _ _ (λ seat found.
      any_as _ _ (rows public.movement) (λ row stands. plays_of public.movement row seat.pair cell board at_board
      stands) found)
      ((seated_decides public viewer cell).0 test))))

-- a user plays a board exactly where there is such a table
pub plays_where_found : (public : Public) (viewer : Viewer) (board : ℕ) (own : Option Cell) →
    IfSome own (IsSeatedAt public viewer) →
    IfSome own (λ cell. cell.board ≡ board) → IfNone own (¬ PlaysBoard public viewer board) → is_some own ≡ plays_board
    public viewer board
plays_where_found public viewer board (Some own) seated at_board none = plays_where_seated public viewer own seated
    board at_board
plays_where_found public viewer board None seated at_board none = plays_not public viewer board none
