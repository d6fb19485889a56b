-- The tables that a denial names.
use Rattle.std.proofs.Common.{
  ◌≡◌,
  ℕ,
  suc,
  ◌+◌,
  ◌<◌,
  Bool,
  true,
  false,
  List,
  [],
  ◌∷◌,
  All,
  Any,
  Contains,
  get_or,
  refl,
  sym,
  ap,
  ◌∙◌,
  arith,
  inl,
  inr,
}
use Rattle.std.specs.Prelude.{Some, None, cond, ◌||◌}
use Rattle.std.specs.List.{find, list_any, range_with_len}
use Rattle.std.specs.Option.{option_map, unwrap_or}
use Rattle.std.proofs.lemmas.Bool.{cases_Bool, false≢true, false_from_ne_true, and_left}
use Rattle.std.proofs.lemmas.List.FromFn.{get_or-range_with_len, length-range_with_len}
use Rattle.std.proofs.lemmas.List.Folds.{list_any-from_Any}
use Rattle.table_terms.specs.declared.pair.Pair.{Pair}
use Rattle.movement.specs.declared.cell.Cell.{Cell}
use Rattle.movement.specs.declared.row.Row.{Row}
use Rattle.movement.specs.Movement.{Section, IsSection, rows, HasCell, IsCell}
use Rattle.movement.specs.Row.{Seats, Plays}
use Rattle.movement.specs.Schedule.{plays}
use Rattle.movement.proofs.ScheduleTests.{any_as, plays_decides, scheduled-cell}
use Rattle.disclosure_rules.proofs.FirstLemmas.{find_place, find_none}
use Rattle.disclosure_rules.proofs.SeatingLemmas.{plays_of, one_table}
use Rattle.denials.specs.Evidence.{table_of_pair, is_awaited, awaited_table}

-- an element that is found: it is in the list, and it passes
record IsFound {X : Type 0} (p : X → Bool) (xs : List X) : Type 0 where
  it : X
  is : find p xs ≡ Some it
  listed : Contains xs it
  passes : p it ≡ true

-- where some element passes, one is found
found : {X : Type 0} (p : X → Bool) (xs : List X) → list_any p xs ≡ true → IsFound p xs
found p [] some = absurd (false≢true some)
found p (x ∷ xs) some =
    elim (cases_Bool (p x)) [
      | inl passes ↦ record {
        it = x;
        is = ap (λ b. cond b (Some x) (find p xs)) passes;
        listed =
            (0, omega arith, refl);
        passes = passes;
      }
      | inr fails ↦ later fails (found p xs (sym (ap (λ b. b || list_any p xs) fails) ∙ some))
    ]
  where
    later : p x ≡ false → IsFound p xs → IsFound p (x ∷ xs)
    later fails rest = record {
      it = rest.it;
      is = ap (λ b. cond b (Some x) (find p xs)) fails ∙ rest.is;
      listed = (suc rest.listed.0, omega (arith, rest.listed.1), rest.listed.2);
      passes = rest.passes;
    }

-- a pair plays a board at the table of its cell
pub table_of_own_cell : (section : Section) (pair : Pair) (board : ℕ) (cell : Cell) → IsSection section →
    cell.board ≡ board →
    Any (λ row. Seats row pair × HasCell section row cell) (rows section) → cell.table ≡ table_of_pair section pair
    board
table_of_own_cell section pair board cell is_section at_board seated =
    let played = list_any-from_Any (plays section pair board) (rows section)
    (any_as _ _ (rows section) (λ row stands. (plays_decides section pair board row).1
    (plays_of section row pair cell board at_board stands)) seated) in
    let own = found (plays section pair board) (rows section) played in
    sym (one_table section pair cell board is_section at_board seated own.it own.listed
    ((plays_decides section pair board own.it).0 own.passes))
    ∙ sym (ap (λ row. unwrap_or (option_map (λ (r : Row). r.table) row) 0) own.is)

-- and at none where no row has it
pub no_table : (section : Section) (pair : Pair) (board : ℕ) → All (λ row. ¬ Plays section row pair board)
    (rows section) → 0 ≡ table_of_pair section pair board
no_table section pair board none = sym (ap (λ row. unwrap_or (option_map (λ (r : Row). r.table) row) 0)
    (nowhere (rows section) none))
  where
    nowhere : (xs : List Row) → All (λ row. ¬ Plays section row pair board) xs → find (plays section pair board) xs ≡
        None
    nowhere [] none' = refl
    nowhere (x ∷ xs) none' =
        find_none (plays section pair board) (x ∷ xs) x
        (λ j below. false_from_ne_true _ (λ test. none' j x below ((plays_decides section pair board _).0 test)))

-- from a table that isn't scheduled nothing is awaited
pub not_awaited : (section : Section) (live : List (List ℕ)) (board table : ℕ) → ¬ IsCell section
    (record { table = table; board = board }) → false ≡ is_awaited section live board table
not_awaited section live board table none =
    sym (and_left _ _ (false_from_ne_true _ (λ test. none (scheduled-cell section _ test))))

-- the first awaited table is the least
pub first_awaited : (section : Section) (live : List (List ℕ)) (board k : ℕ) → k < section.tables →
    true ≡ is_awaited section live board (k + 1) →
    ((j : ℕ) → j < k → is_awaited section live board (j + 1) ≡ false) → k + 1 ≡ awaited_table section live board
unfolding awaited_table
first_awaited section live board k below opens least =
    let n : ℕ = section.tables in
    let place : (j : ℕ) → j < n → get_or (range_with_len 1 n) j 0 ≡ j + 1 = λ j within. get_or-range_with_len 1 n j 0
    within ∙ omega arith in
    let is_first = find_place (is_awaited section live board) (range_with_len 1 n) k 0
    (omega (arith, length-range_with_len 1 n)) (ap (is_awaited section live board) (place k below) ∙ sym opens)
    (λ j before. ap (is_awaited section live board) (place j (omega arith)) ∙ least j before) in
    sym (place k below) ∙ sym (ap (λ o. unwrap_or o 0) is_first)

-- and where no table is awaited, there is none
pub none_awaited : (section : Section) (live : List (List ℕ)) (board : ℕ) →
    ((j : ℕ) → j < section.tables → is_awaited section live board (j + 1) ≡ false) → 0 ≡ awaited_table section live
    board
unfolding awaited_table
none_awaited section live board none =
    let n : ℕ = section.tables in
    let place : (j : ℕ) → j < n → get_or (range_with_len 1 n) j 0 ≡ j + 1 = λ j within. get_or-range_with_len 1 n j 0
    within ∙ omega arith in
    sym (ap (λ o. unwrap_or o 0) (find_none (is_awaited section live board) (range_with_len 1 n) 0
    (λ j below. ap (is_awaited section live board) (place j (omega (arith, length-range_with_len 1 n))) ∙ none j
    (omega (arith, length-range_with_len 1 n)))))
