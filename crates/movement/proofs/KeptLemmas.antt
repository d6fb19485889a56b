-- What is kept at the places of a movement, as its rows.
use Rattle.std.proofs.Common.{
  ◌≡◌,
  ℕ,
  zero,
  suc,
  ◌+◌,
  ◌-◌,
  ◌/◌,
  ◌%◌,
  ◌<◌,
  ◌≤◌,
  List,
  [],
  ◌∷◌,
  get_or,
  refl,
  sym,
  ap,
  ◌∙◌,
  subst,
  inl,
  inr,
  Contains,
  Any,
  All,
  Bool,
  true,
  false,
  arith,
}
use Rattle.std.specs.Prelude.{Option, Some, None, IfSome, IfNone, IsTrue, ◌↔◌, ◌⊎◌, ◌||◌, slice_index_or}
use Rattle.std.specs.Bool.{Decides}
use Rattle.std.specs.List.{filter_map, cons_option, range_with_len}
use Rattle.std.proofs.lemmas.List.Elements.{
  Contains-append_left,
  Contains-append_right,
  Contains-append_cases,
  Contains-get_or,
}
use Rattle.std.proofs.lemmas.Bool.{false≢true}
use Rattle.std.proofs.lemmas.Bool.Decides.{Decides-or}
use Rattle.table_terms.specs.declared.pair.Pair.{Pair}
use Rattle.mitchell.proofs.ContainsLemmas.{Contains-range, range-contains}
use Rattle.movement.specs.declared.cell.Cell.{Cell}
use Rattle.movement.specs.declared.sitting.Sitting.{Sitting}
use Rattle.movement.specs.Movement.{Section, IsOfSet, HasCell, IsCell, IsSection, same_pair, rows}
use Rattle.movement.specs.declared.row.Row.{Row}
use Rattle.movement.specs.Row.{Seats, Plays, IsPlayedBy}
use Rattle.movement.specs.Kept.{places, place_of, row_of_sitting, row_at, kept_rows}
use Rattle.movement.proofs.MovementLemmas.{same_cell}
use Rattle.movement.proofs.ScheduleTests.{pair_decides}

single : {X : Type 0} (first x : X) (k : ℕ) → k < 1 → get_or (first ∷ []) k x ≡ x → first ≡ x
single first x zero below here = here
single first x (suc k) below here = absurd (omega arith)

-- what a list gives is among what it gives
at_head : {Y : Type 0} (found : Option Y) (y : Y) (rest : List Y) → found ≡ Some y → Contains (cons_option found rest) y
at_head (Some z) y rest same = (0, omega arith, (cc))
at_head None y rest same = absurd (cc)

behind_head : {Y : Type 0} (found : Option Y) (y : Y) (rest : List Y) → Contains rest y →
    Contains (cons_option found rest) y
behind_head (Some z) y rest among = Contains-append_right (z ∷ []) rest y among
behind_head None y rest among = among

pub Contains-filter_map : {X Y : Type 0} (h : X → Option Y) (xs : List X) (x : X) (y : Y) → Contains xs x →
    h x ≡ Some y → Contains (filter_map h xs) y
Contains-filter_map h [] x y (k, within, here) gives = absurd (omega arith)
Contains-filter_map h (first ∷ rest) x y among gives =
    elim (Contains-append_cases (first ∷ []) rest x among) [
      | inl (k, within, here) ↦
          at_head (h first) y (filter_map h rest) (ap h (single first x k within here) ∙ gives)
      | inr later ↦ behind_head (h first) y (filter_map h rest) (Contains-filter_map h rest x y later gives)
    ]

from_head : {Y : Type 0} (found : Option Y) (y : Y) (rest : List Y) → Contains (cons_option found rest) y →
    (found ≡ Some y) ⊎ Contains rest y
from_head None y rest among = inr among
from_head (Some z) y rest among =
    elim (Contains-append_cases (z ∷ []) rest y among) [
      | inl (k, within, here) ↦ inl (ap Some (single z y k within here))
      | inr later ↦ inr later
    ]

pub filter_map-contains : {X Y : Type 0} (h : X → Option Y) (xs : List X) (y : Y) → Contains (filter_map h xs) y →
    (x : X) × Contains xs x × (h x ≡ Some y)
filter_map-contains h [] y (k, within, here) = absurd (omega arith)
filter_map-contains h (first ∷ rest) y among =
    elim (from_head (h first) y (filter_map h rest) among) [
      | inl gives ↦ (first, Contains-append_left (first ∷ []) rest first (0, omega arith, refl), gives)
      | inr later ↦
          let found = filter_map-contains h rest y later in
          (found.0, Contains-append_right (first ∷ []) rest found.0 found.1, found.2)
    ]

-- a row that is kept: where, and who sits there
pub record IsKeptRow (sittings : List (Option Sitting)) (row : Row) : Type 0 where
  pub place : ℕ
  pub sitting : Sitting
  pub below : place < places
  pub here : slice_index_or sittings place None ≡ Some sitting
  pub made : row_of_sitting place sitting ≡ row
  pub set : place / 16 + 1 ≡ row.set
  pub table : place % 16 + 1 ≡ row.table

pub kept_row : (sittings : List (Option Sitting)) (row : Row) → Contains (kept_rows sittings) row →
    IsKeptRow sittings row
unfolding kept_rows
kept_row sittings row among =
    let found = filter_map-contains (row_at sittings) (range_with_len 0 places) row among in
    by_place found.0 (range-contains places found.0 found.1) (slice_index_or sittings found.0 None) refl found.2
  where
    by_place : (place : ℕ) → place < places → (kept : Option Sitting) → slice_index_or sittings place None ≡ kept →
        row_at sittings place ≡ Some row → IsKeptRow sittings row
    by_place place below (Some sitting) here gives = kept (given (rw here at gives))
      where
        given : Some (row_of_sitting place sitting) ≡ Some row → row_of_sitting place sitting ≡ row
        given same = cc

        kept : row_of_sitting place sitting ≡ row → IsKeptRow sittings row
        kept made = record {
          place = place;
          sitting = sitting;
          below = below;
          here = here;
          made = made;
          set = ap (λ (row : Row). row.set) made;
          table = ap (λ (row : Row). row.table) made;
        }
    by_place place below None here gives = absurd (none (rw here at gives))
      where
        none : None ≡ Some row → ⊥
        none same = cc

pub row_kept : (sittings : List (Option Sitting)) (place : ℕ) (sitting : Sitting) → place < places →
    slice_index_or sittings place None ≡ Some sitting → Contains (kept_rows sittings) (row_of_sitting place sitting)
unfolding kept_rows
row_kept sittings place sitting below here =
    Contains-filter_map (row_at sittings) (range_with_len 0 places) place (row_of_sitting place sitting)
    (Contains-range places place below) (rw here refl)

-- who plays a board at a table, by what is kept at its place
pub played_at : (section : Section) (sittings : List (Option Sitting)) (table board place : ℕ) →
    section.rows ≡ kept_rows sittings → place < places → place % 16 + 1 ≡ table →
    IsOfSet section (place / 16 + 1) board → (found : Option Sitting) → slice_index_or sittings place None ≡ found →
    IfSome found (λ sitting. Any (IsPlayedBy section (record { table = table; board = board }) sitting) section.rows)
played_at section sittings table board place rows below at_table of_set None here = tt
played_at section sittings table board place rows below at_table of_set (Some sitting) here =
    let row : Row = row_of_sitting place sitting in
    let among : Contains section.rows row =
    subst (λ (all : List Row). Contains all row) (sym rows) (row_kept sittings place sitting below here) in (
      among.0,
      row,
      among.1,
      among.2,
      record {
        has = record { table = at_table; board = of_set };
        round = refl;
        north_south = refl;
        east_west = refl;
      },
    )

-- and where nothing is kept there, the table isn't scheduled to play the board
pub not_played_at : (section : Section) (sittings : List (Option Sitting)) (table board place : ℕ) →
    section.rows ≡ kept_rows sittings → 1 ≤ table → table ≤ 16 →
    ((set : ℕ) → IsOfSet section set board → 1 ≤ set → place ≡ place_of set table) →
    (found : Option Sitting) → slice_index_or sittings place None ≡ found →
    IfNone found (¬ IsCell section (record { table = table; board = board }))
not_played_at section sittings table board place rows from to only (Some sitting) here = tt
not_played_at section sittings table board place rows from to only None here = never
  where
    none : {sitting : Sitting} → None ≡ Some sitting → ⊥
    none same = cc

    never : IsCell section (record { table = table; board = board }) → ⊥
    never (k, row, within, there, has) =
        let kept = kept_row sittings row (subst (λ (rows : List Row). Contains rows row) rows (k, within, there)) in
        let set : kept.place / 16 + 1 ≡ row.set = kept.set in
        let at : kept.place % 16 + 1 ≡ row.table = kept.table in
        let its : row.table ≡ table = has.table in
        let place_is : place ≡ place_of row.set table = only row.set has.board (omega arith) in
        let same : place ≡ kept.place = omega arith in
        none (sym here ∙ ap (λ place. slice_index_or sittings place None) same ∙ kept.here)

-- ---- who plays a cell

-- a cell is played in one of the rounds
pub played_in_round : (section : Section) → IsSection section → (cell : Cell) (sitting : Sitting) →
    Any (IsPlayedBy section cell sitting) (rows section) → (1 ≤ sitting.round) × (sitting.round ≤ section.rounds)
played_in_round section is_section cell sitting (k, row, within, here, played) =
    let range = is_section.in_range row (k, within, here) in
    (omega (arith, range.from_round, played.round), omega (arith, range.to_round, played.round))

-- a pair plays a cell where it is one of those who sit there
pub seated_at : (section : Section) → IsSection section → (cell : Cell) (sitting : Sitting) (pair : Pair) →
    Any (IsPlayedBy section cell sitting) section.rows → (test : Bool) →
    test ≡ (same_pair sitting.north_south pair || same_pair sitting.east_west pair) →
    IsTrue test ↔ Any (λ row. Seats row pair × HasCell section row cell) section.rows
seated_at section is_section cell sitting pair (k, row, within, here, played) test is = (to, from)
  where
    decides : Decides (same_pair sitting.north_south pair || same_pair sitting.east_west pair)
        ((sitting.north_south ≡ pair) ⊎ (sitting.east_west ≡ pair))
    decides = Decides-or _ _ (pair_decides sitting.north_south pair) (pair_decides sitting.east_west pair)

    here_seats : (sitting.north_south ≡ pair) ⊎ (sitting.east_west ≡ pair) → Seats row pair
    here_seats (inl north) = inl (played.north_south ∙ north)
    here_seats (inr east) = inr (played.east_west ∙ east)

    seats_here : Seats row pair → (sitting.north_south ≡ pair) ⊎ (sitting.east_west ≡ pair)
    seats_here (inl north) = inl (sym played.north_south ∙ north)
    seats_here (inr east) = inr (sym played.east_west ∙ east)

    to : test ≡ true → Any (λ row. Seats row pair × HasCell section row cell) section.rows
    to holds = (k, row, within, here, (here_seats (decides.0 (sym is ∙ holds)), played.has))

    from : Any (λ row. Seats row pair × HasCell section row cell) section.rows → test ≡ true
    from (j, other, inside, there, both) =
        let same : other ≡ row =
        same_cell section other row cell is_section (j, inside, there) (k, within, here) both.1 played.has in
        is ∙ decides.1 (seats_here (subst (λ (r : Row). Seats r pair) same both.0))

-- nobody plays a cell that isn't one
pub unseated_at : (section : Section) (cell : Cell) (pair : Pair) → ¬ IsCell section cell →
    IsTrue false ↔ Any (λ row. Seats row pair × HasCell section row cell) section.rows
unseated_at section cell pair none = (
  λ test. absurd (false≢true test),
  λ (k, row, within, here, both). absurd (none (k, row, within, here, both.1)),
)

-- who plays a board at no table of the movement doesn't play it
pub nobody_plays : (section : Section) → IsSection section → (pair : Pair) (board tables : ℕ) →
    section.tables ≤ tables →
    ((k : ℕ) → k < tables →
    ¬ Any (λ row. Seats row pair × HasCell section row (record { table = k + 1; board = board })) section.rows) →
    All (λ row. ¬ Plays section row pair board) section.rows
nobody_plays section is_section pair board tables many never k d within plays =
    let row : Row = get_or section.rows k d in
    let among : Contains section.rows row = Contains-get_or section.rows k d within in
    let range = is_section.in_range row among in
    never (row.table - 1) (omega (arith, range.from_table, range.to_table)) (
      among.0,
      row,
      among.1,
      among.2,
      (plays.seated, record { table = omega (arith, range.from_table); board = plays.board }),
    )
