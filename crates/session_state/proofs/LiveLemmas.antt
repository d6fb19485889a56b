-- The live bits are set just where a cell has a result, and stay so.
use Rattle.std.proofs.Common.{
  ◌≡◌,
  ◌≢◌,
  ℕ,
  ◌+◌,
  ◌-◌,
  ◌*◌,
  ◌<◌,
  Bool,
  true,
  false,
  zero,
  suc,
  List,
  [],
  length,
  get_or,
  replicate,
  inl,
  inr,
  refl,
  sym,
  ap,
  ◌∙◌,
  arith,
}
use Rattle.std.specs.Prelude.{nat_eq, slice_index_or, slice_set, ◌||◌, ◌&&◌, not}
use Rattle.std.proofs.lemmas.Bool.{cases_eq, eq-eqb, ne_eqb, or_left}
use Rattle.std.proofs.lemmas.List.{get_or-set_same, get_or-set_other}
use Rattle.movement.specs.declared.cell.Cell.{Cell}
use Rattle.movement.specs.Movement.{most_tables, most_boards}
use Rattle.disclosure_rules.specs.LiveCells.{tables_at, is_live, with_live, without_live}
use Rattle.small_sets.specs.Numbers.{has_number, numbers_that}
use Rattle.small_sets.proofs.NumbersLemmas.{has_number-numbers_that}
use Rattle.session_commands.specs.declared.cell_state.CellState.{CellState}
use Rattle.session_commands.specs.declared.cell_state.CellState.TheVariants.{Empty, Entered, Confirmed, Ruled}
use Rattle.solver_results.specs.PlayAnswer.{PlayedDeal}
use Rattle.session_commands.specs.CellState.{has_result, with_costs}
use Rattle.session_state.specs.SessionState.{most_cells, cell_index, IsPlaced, AreLive}

-- nothing is live where nothing is known
same_items : {A : Type 0} (n i : ℕ) (a : A) → get_or (replicate n a) i a ≡ a
same_items zero i a = refl
same_items (suc n) zero a = refl
same_items (suc n) (suc i) a = same_items n i a

no_tables : (n board table : ℕ) → has_number (tables_at (replicate n []) board) table ≡ false
no_tables n zero table = refl
no_tables n (suc board) table = ap (λ tables. has_number tables table) (same_items n board [])

pub none_live : (live : List (List ℕ)) (cells : List CellState) → live ≡ replicate most_boards [] →
    cells ≡ replicate most_cells Empty → AreLive live cells
none_live live cells none empty cell placed =
    ap (λ bits. is_live bits cell) none ∙ no_tables most_boards cell.board cell.table
    ∙ sym (ap (λ known. has_result (get_or known (cell_index cell) Empty)) empty ∙ ap has_result
    (same_items most_cells (cell_index cell) Empty))

-- the place of a cell is its own
pub own_place : (cell other : Cell) → IsPlaced cell → IsPlaced other → cell_index other ≡ cell_index cell →
    (other.board ≡ cell.board) × (other.table ≡ cell.table)
own_place cell other placed placed_other same = (
  omega (
    arith,
    placed.from_table,
    placed.to_table,
    placed.from_board,
    placed_other.from_table,
    placed_other.to_table,
    placed_other.from_board,
  ),
  omega (
    arith,
    placed.from_table,
    placed.to_table,
    placed.from_board,
    placed_other.from_table,
    placed_other.to_table,
    placed_other.from_board,
  ),
)

-- the tables of a board, where it stands in the list
tables_of : (live : List (List ℕ)) (i board : ℕ) → board ≡ i + 1 → tables_at live board ≡ slice_index_or live i []
tables_of live i zero is = absurd (omega (arith, is))
tables_of live i (suc board) is = let same : board ≡ i = omega (arith, is) in ap (λ k. get_or live k []) same

-- the tables of the cell's board become those that pass a test, and those of another board stay
module _ (live : List (List ℕ)) (cell other : Cell) (boards : length live ≡ most_boards) (placed : IsPlaced cell)
    (placed_other : IsPlaced other) where
  on_its_board : (test : ℕ → Bool) → other.board ≡ cell.board →
      is_live (slice_set live (cell.board - 1) (numbers_that most_tables test)) other ≡ test other.table
  on_its_board test same =
      let from = placed.from_board in
      let to = placed.to_board in
      let at : other.board ≡ (cell.board - 1) + 1 = omega (arith, same, from) in
      let below : cell.board - 1 < length live = omega (arith, boards, from, to) in
      ap (λ numbers. has_number numbers other.table)
      (tables_of (slice_set live (cell.board - 1) (numbers_that most_tables test)) (cell.board - 1) other.board at
      ∙ get_or-set_same live (cell.board - 1) (numbers_that most_tables test) [] below)
      ∙ has_number-numbers_that most_tables test other.table placed_other.from_table placed_other.to_table

  on_another_board : (test : ℕ → Bool) → other.board ≢ cell.board →
      is_live (slice_set live (cell.board - 1) (numbers_that most_tables test)) other ≡ is_live live other
  on_another_board test differ =
      let from = placed.from_board in
      let from_other = placed_other.from_board in
      let at : other.board ≡ (other.board - 1) + 1 = omega (arith, from_other) in
      let apart : other.board - 1 ≢ cell.board - 1 = λ same. differ (omega (arith, same, from, from_other)) in
      ap (λ numbers. has_number numbers other.table)
      (tables_of (slice_set live (cell.board - 1) (numbers_that most_tables test)) (other.board - 1) other.board at
      ∙ get_or-set_other live (cell.board - 1) (other.board - 1) (numbers_that most_tables test) [] apart
      ∙ sym (tables_of live (other.board - 1) other.board at))

  on_board : other.board ≡ cell.board → has_number (tables_at live cell.board) other.table ≡ is_live live other
  on_board same = ap (λ board. has_number (tables_at live board) other.table) (sym same)

  another_table : cell_index other ≢ cell_index cell → other.board ≡ cell.board → nat_eq other.table cell.table ≡ false
  another_table differ same = ne_eqb other.table cell.table
      (λ table. differ (λ i. (same i - 1) * most_tables + (table i - 1)))

  -- with a result at the cell
  own_bit_set : cell_index other ≡ cell_index cell → is_live (with_live live cell) other ≡ true
  own_bit_set same =
      let own = own_place cell other placed placed_other same in
      on_its_board (λ n. nat_eq n cell.table || has_number (tables_at live cell.board) n) own.0
      ∙ or_left (nat_eq other.table cell.table) _ (eq-eqb other.table cell.table own.1)

  other_bit_with : cell_index other ≢ cell_index cell → is_live (with_live live cell) other ≡ is_live live other
  other_bit_with differ =
      elim (cases_eq other.board cell.board) [
        | inl same ↦
            on_its_board (λ n. nat_eq n cell.table || has_number (tables_at live cell.board) n) same
            ∙ ap (λ b. b || has_number (tables_at live cell.board) other.table) (another_table differ same)
            ∙ on_board same
        | inr board ↦ on_another_board (λ n. nat_eq n cell.table || has_number (tables_at live cell.board) n) board
      ]

  -- with no result at the cell
  own_bit_clear : cell_index other ≡ cell_index cell → is_live (without_live live cell) other ≡ false
  own_bit_clear same =
      let own = own_place cell other placed placed_other same in
      on_its_board (λ n. not (nat_eq n cell.table) && has_number (tables_at live cell.board) n) own.0
      ∙ ap (λ b. not b && has_number (tables_at live cell.board) other.table) (eq-eqb other.table cell.table own.1)

  other_bit_without : cell_index other ≢ cell_index cell → is_live (without_live live cell) other ≡ is_live live other
  other_bit_without differ =
      elim (cases_eq other.board cell.board) [
        | inl same ↦
            on_its_board (λ n. not (nat_eq n cell.table) && has_number (tables_at live cell.board) n) same
            ∙ ap (λ b. not b && has_number (tables_at live cell.board) other.table) (another_table differ same)
            ∙ on_board same
        | inr board ↦ on_another_board (λ n. not (nat_eq n cell.table) && has_number (tables_at live cell.board) n)
            board
      ]

-- what is known of a cell, once it is set
module _ (cells : List CellState) (cell other : Cell) (known : CellState) where
  known_there : cell_index cell < length cells → cell_index other ≡ cell_index cell →
      get_or (slice_set cells (cell_index cell) known) (cell_index other) Empty ≡ known
  known_there below same =
      ap (λ place. get_or (slice_set cells (cell_index cell) known) place Empty) same ∙ get_or-set_same cells
      (cell_index cell) known Empty below

  pub known_elsewhere : cell_index other ≢ cell_index cell → get_or (slice_set cells (cell_index cell) known)
      (cell_index other) Empty ≡ get_or cells (cell_index other) Empty
  known_elsewhere differ = get_or-set_other cells (cell_index cell) (cell_index other) known Empty differ

-- the live bits stay those of the results: where a result is set, where none is, and where
-- there is one just where there was
module _ (live : List (List ℕ)) (cells : List CellState) (cell : Cell) (known : CellState)
    (placed : IsPlaced cell) (below : cell_index cell < length cells) (boards : length live ≡ most_boards)
    (kept : AreLive live cells) where
  pub result_live : has_result known ≡ true → AreLive (with_live live cell) (slice_set cells (cell_index cell) known)
  result_live is_result other placed_other =
      elim (cases_eq (cell_index other) (cell_index cell)) [
        | inl same ↦ own_bit_set live cell other boards placed placed_other same
            ∙ sym (ap has_result (known_there cells cell other known below same) ∙ is_result)
        | inr differ ↦ other_bit_with live cell other boards placed placed_other differ ∙ kept other placed_other
            ∙ sym (ap has_result (known_elsewhere cells cell other known differ))
      ]

  pub cleared_live : has_result known ≡ false → AreLive (without_live live cell)
      (slice_set cells (cell_index cell) known)
  cleared_live no_result other placed_other =
      elim (cases_eq (cell_index other) (cell_index cell)) [
        | inl same ↦ own_bit_clear live cell other boards placed placed_other same
            ∙ sym (ap has_result (known_there cells cell other known below same) ∙ no_result)
        | inr differ ↦ other_bit_without live cell other boards placed placed_other differ ∙ kept other placed_other
            ∙ sym (ap has_result (known_elsewhere cells cell other known differ))
      ]

  pub same_live : has_result known ≡ has_result (get_or cells (cell_index cell) Empty) → AreLive live
      (slice_set cells (cell_index cell) known)
  same_live as_before other placed_other =
      elim (cases_eq (cell_index other) (cell_index cell)) [
        | inl same ↦
            kept other placed_other ∙ ap (λ place. has_result (get_or cells place Empty)) same ∙ sym as_before
            ∙ sym (ap has_result (known_there cells cell other known below same))
        | inr differ ↦ kept other placed_other ∙ sym (ap has_result (known_elsewhere cells cell other known differ))
      ]

  pub entered_live : has_result known ≡ false → has_result (get_or cells (cell_index cell) Empty) ≡ false → AreLive live
      (slice_set cells (cell_index cell) known)
  entered_live no_result was_none = same_live (no_result ∙ sym was_none)

-- costs make no result, and take none away
pub costs_live : (known : CellState) (costs : PlayedDeal) → has_result (with_costs known costs) ≡ has_result known
costs_live Empty costs = refl
costs_live (Entered outcome play) costs = refl
costs_live (Confirmed outcome play old) costs = refl
costs_live (Ruled north_south east_west reason) costs = refl
