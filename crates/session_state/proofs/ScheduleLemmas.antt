-- The cells that are found, against the tests on the movement.
use Rattle.std.proofs.Common.{◌≡◌, ℕ, sym, subst, arith}
use Rattle.std.specs.Prelude.{Option, Some, None, is_some, IfSome, IfNone}
use Rattle.std.proofs.lemmas.Bool.{false_from_ne_true}
use Rattle.movement.specs.declared.cell.Cell.{Cell}
use Rattle.movement.specs.Movement.{Section, IsSection, IsCell}
use Rattle.movement.specs.Row.{IsCellInRange}
use Rattle.movement.specs.Schedule.{is_scheduled}
use Rattle.session_state.proofs.movement_lemmas.ScheduleTests.{scheduled-cell, cell-scheduled}
pub use Rattle.session_state.proofs.movement_lemmas.ScheduleTests.{later_than}
use Rattle.session_state.specs.SessionState.{IsPlaced}

-- a cell that is found passes the test, and one that isn't doesn't
pub found_scheduled : (section : Section) (table board : ℕ) (found : Option Cell) →
    IfSome found (λ cell. cell ≡ record { table = table; board = board }) → IfSome found (IsCell section) →
    IfNone found (¬ IsCell section (record { table = table; board = board })) →
    is_some found ≡ is_scheduled section (record { table = table; board = board })
found_scheduled section table board (Some cell) own is_cell none =
    sym (cell-scheduled section _ (subst (IsCell section) own is_cell))
found_scheduled section table board None own is_cell none =
    sym (false_from_ne_true _ (λ test. none (scheduled-cell section _ test)))

-- a cell of a section has a place
pub placed : (section : Section) (cell : Cell) → IsSection section → IsCellInRange section cell → IsPlaced cell
placed section cell is_section range =
    let tables = is_section.not_too_many_tables in
    let boards = is_section.not_too_many_boards in
    let to_table = range.to_table in
    let to_board = range.to_board in
    record {
      from_table = range.from_table;
      to_table = omega arith;
      from_board = range.from_board;
      to_board =
          omega arith;
    }

pub placed_found : (section : Section) (found : Option Cell) → IsSection section → IfSome found
    (IsCellInRange section) → IfSome found IsPlaced
placed_found section (Some cell) is_section range = placed section cell is_section range
placed_found section None is_section range = tt
