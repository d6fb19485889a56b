-- The pairs of a cell are those of its row.
use Rattle.std.proofs.Common.{
  ◌≡◌,
  suc,
  Bool,
  true,
  false,
  List,
  [],
  ◌∷◌,
  Any,
  Contains,
  refl,
  sym,
  ap,
  ◌∙◌,
  arith,
  inl,
  inr,
}
use Rattle.std.specs.Prelude.{Some, cond, find, ◌||◌}
use Rattle.std.specs.List.{list_any}
use Rattle.std.proofs.lemmas.Bool.{cases_Bool, false≢true}
use Rattle.table_terms.specs.declared.pair.Pair.{Pair}
use Rattle.movement.specs.declared.cell.Cell.{Cell}
use Rattle.movement.specs.declared.row.Row.{Row}
use Rattle.movement.specs.Movement.{Section, IsSection, HasCell, rows}
use Rattle.movement.specs.Schedule.{stands_in, is_scheduled}
use Rattle.movement.proofs.MovementLemmas.{same_cell}
use Rattle.movement.proofs.ScheduleTests.{stands-has, cell-scheduled}
use Rattle.standings.specs.Traveller.{row_of_cell, north_south_by, east_west_by}

-- an element that is found: it is in the list, and it passes
record IsFound {X : Type 0} (p : X → Bool) (xs : List X) : Type 0 where
  it : X
  is : find p xs ≡ Some it
  listed : Contains xs it
  passes : p it ≡ true

-- where some element passes, one is found
found : {X : Type 0} (p : X → Bool) (xs : List X) → list_any p xs ≡ true → IsFound p xs
found p [] some = absurd (false≢true some)
found p (x ∷ xs) some =
    elim (cases_Bool (p x)) [
      | inl passes ↦ record {
        it = x;
        is = ap (λ b. cond b (Some x) (find p xs)) passes;
        listed =
            (0, omega arith, refl);
        passes = passes;
      }
      | inr fails ↦ later fails (found p xs (sym (ap (λ b. b || list_any p xs) fails) ∙ some))
    ]
  where
    later : p x ≡ false → IsFound p xs → IsFound p (x ∷ xs)
    later fails rest = record {
      it = rest.it;
      is = ap (λ b. cond b (Some x) (find p xs)) fails ∙ rest.is;
      listed = (suc rest.listed.0, omega (arith, rest.listed.1), rest.listed.2);
      passes = rest.passes;
    }

-- a row of a cell that is found is in the movement, and has the cell
record IsRowOf (section : Section) (cell : Cell) : Type 0 where
  row : Row
  is : row_of_cell section cell ≡ Some row
  listed : Contains (rows section) row
  has : HasCell section row cell

row_of : (section : Section) (cell : Cell) → is_scheduled section cell ≡ true → IsRowOf section cell
row_of section cell scheduled =
    let own = found (stands_in section cell) (rows section) scheduled in
    record { row = own.it; is = own.is; listed = own.listed; has = stands-has section cell own.it own.passes }

-- the row of a cell that is found is any that has the cell
one_row : (section : Section) (cell : Cell) (row : Row) → IsSection section → Contains (rows section) row →
    HasCell section row cell → row_of_cell section cell ≡ Some row
one_row section cell row is_section (k, below, here) has =
    let own = row_of section cell (cell-scheduled section cell (k, row, below, here, has)) in
    own.is ∙ ap (λ (r : Row). Some r)
    (same_cell section own.row row cell is_section own.listed (k, below, here) own.has has)

-- who sits North-South in a row of a cell sits there where the cell is played
pub north_south_of_row : (section : Section) (cell : Cell) (pair : Pair) → IsSection section →
    Any (λ row. HasCell section row cell × (row.north_south ≡ pair)) (rows section) → pair ≡ north_south_by cell
    (row_of_cell section cell)
north_south_of_row section cell pair is_section (k, row, below, here, (has, seated)) =
    sym (ap (north_south_by cell) (one_row section cell row is_section (k, below, here) has) ∙ seated)

-- and so does who sits East-West
pub east_west_of_row : (section : Section) (cell : Cell) (pair : Pair) → IsSection section →
    Any (λ row. HasCell section row cell × (row.east_west ≡ pair)) (rows section) → pair ≡ east_west_by
    (row_of_cell section cell)
east_west_of_row section cell pair is_section (k, row, below, here, (has, seated)) =
    sym (ap east_west_by (one_row section cell row is_section (k, below, here) has) ∙ seated)
