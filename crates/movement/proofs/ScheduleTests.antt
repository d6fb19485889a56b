-- The tests on the movement against its own words.
use Rattle.std.proofs.Common.{◌≡◌, ℕ, ◌<◌, Bool, true, List, sym, ap, ◌∙◌, subst, Any, Contains}
use Rattle.std.specs.Prelude.{◌&&◌, nat_lt}
use Rattle.std.specs.Bool.{Decides}
use Rattle.std.specs.List.{list_any}
use Rattle.std.proofs.lemmas.Bool.{eqb-true, ltb-true, lt-ltb, leb-true, le-leb, eq-eqb, and_from, and_parts}
use Rattle.std.proofs.lemmas.Bool.Decides.{Decides-or, same_from_decides}
use Rattle.std.proofs.lemmas.List.Folds.{Any-from_list_any, list_any-from_Any}
use Rattle.table_terms.specs.declared.pair.Pair.{Pair}
use Rattle.movement.specs.declared.cell.Cell.{Cell}
use Rattle.movement.specs.Movement.{Section, IsSection, IsOfSet, HasCell, IsCell, rows}
use Rattle.movement.specs.declared.row.Row.{Row}
use Rattle.movement.specs.Row.{Seats, Plays}
use Rattle.movement.specs.Schedule.{is_of_set, stands_in, is_scheduled, is_later, seats, plays}
use Rattle.movement.proofs.MovementLemmas.{same_cell}
pub use Rattle.mitchell.proofs.PairTests.{pair_decides}

-- what holds of some element, said in other words
pub any_as : {X : Type 0} (P Q : X → Type 0) (xs : List X) → ((x : X) → P x → Q x) → Any P xs → Any Q xs
any_as P Q xs gives (k, x, below, here, holds) = (k, x, below, here, gives x holds)

-- a test of each element says whether there is one
pub any_decides : {X : Type 0} (test : X → Bool) (P : X → Type 0) (xs : List X) → ((x : X) → Decides (test x) (P x)) →
    Decides (list_any test xs) (Any P xs)
any_decides test P xs each = (
  λ found. any_as _ _ xs (λ x. (each x).0) (Any-from_list_any test xs found),
  λ some. list_any-from_Any test xs (any_as _ _ xs (λ x. (each x).1) some),
)

-- the set has the board
pub of_set_decides : (section : Section) (set board : ℕ) → Decides (is_of_set section set board)
    (IsOfSet section set board)
of_set_decides section set board = (from, to)
  where
    from : is_of_set section set board ≡ true → IsOfSet section set board
    from test =
        let limits = and_parts _ _ test in
        record { after = ltb-true _ _ limits.0; within = leb-true _ _ limits.1 }

    to : IsOfSet section set board → is_of_set section set board ≡ true
    to of_set = and_from _ _ (lt-ltb _ _ of_set.after) (le-leb _ _ of_set.within)

-- the test says that the cell stands in the row
pub stands-has : (section : Section) (cell : Cell) (row : Row) → stands_in section cell row ≡ true →
    HasCell section row cell
stands-has section cell row stands =
    let parts = and_parts _ _ stands in
    record { table = eqb-true _ _ parts.0; board = (of_set_decides section row.set cell.board).0 parts.1 }

pub has-stands : (section : Section) (cell : Cell) (row : Row) → HasCell section row cell → stands_in section cell row ≡
    true
has-stands section cell row has =
    and_from _ _ (eq-eqb _ _ has.table) ((of_set_decides section row.set cell.board).1 has.board)

-- a cell is what passes the test
pub scheduled-cell : (section : Section) (cell : Cell) → is_scheduled section cell ≡ true → IsCell section cell
scheduled-cell section cell test = any_as _ _ (rows section) (stands-has section cell)
    (Any-from_list_any (stands_in section cell) (rows section) test)

pub cell-scheduled : (section : Section) (cell : Cell) → IsCell section cell → is_scheduled section cell ≡ true
cell-scheduled section cell is_cell = list_any-from_Any (stands_in section cell) (rows section)
    (any_as _ _ (rows section) (has-stands section cell) is_cell)

-- a cell is later than a round where its own round is
pub later_than : (section : Section) (cell : Cell) (own round : ℕ) → IsSection section →
    Any (λ row. HasCell section row cell × (row.round ≡ own)) (rows section) → nat_lt round own ≡ is_later section cell
    round
later_than section cell own round is_section found =
    same_from_decides {P = round < own} (nat_lt round own) (is_later section cell round)
    (ltb-true round own, lt-ltb round own) (
      λ test. from_test (Any-from_list_any _ (rows section) test),
      λ below. list_any-from_Any _ (rows section)
          (any_as _ _ (rows section) (λ row has. and_from _ _ (has-stands section cell row has.0)
          (lt-ltb _ _ (subst (λ n. round < n) (sym has.1) below))) found),
    )
  where
    from_test : Any (λ row. (stands_in section cell row && nat_lt round row.round) ≡ true) (rows section) → round < own
    from_test (k, row, below, here, holds) =
        let parts = and_parts _ _ holds in
        let same = one row (k, below, here) (stands-has section cell row parts.0) found in
        subst (λ n. round < n) same (ltb-true _ _ parts.1)
      where
        one : (row : Row) → Contains (rows section) row → HasCell section row cell →
            Any (λ other. HasCell section other cell × (other.round ≡ own)) (rows section) → row.round ≡ own
        one row listed has (j, other, at, there, holds') = ap (λ (r : Row). r.round)
            (same_cell section row other cell is_section listed (j, at, there) has holds'.0) ∙ holds'.1

-- the row seats the pair
pub seats_decides : (row : Row) (pair : Pair) → Decides (seats row pair) (Seats row pair)
seats_decides row pair = Decides-or _ _ (pair_decides row.north_south pair) (pair_decides row.east_west pair)

-- the row seats the pair at a set that has the board
pub plays_decides : (section : Section) (pair : Pair) (board : ℕ) (row : Row) → Decides (plays section pair board row)
    (Plays section row pair board)
plays_decides section pair board row = (from, to)
  where
    from : plays section pair board row ≡ true → Plays section row pair board
    from test =
        let parts = and_parts _ _ test in
        record { seated = (seats_decides row pair).0 parts.0; board = (of_set_decides section row.set board).0 parts.1 }

    to : Plays section row pair board → plays section pair board row ≡ true
    to played = and_from _ _ ((seats_decides row pair).1 played.seated)
        ((of_set_decides section row.set board).1 played.board)
