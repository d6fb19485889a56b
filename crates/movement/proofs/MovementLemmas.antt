-- No two rows of a section agree where the movement keeps them apart.
use Rattle.std.proofs.Common.{◌≡◌, ℕ, sym, ◌∙◌, Contains}
use Rattle.table_terms.specs.declared.pair.Pair.{Pair}
use Rattle.movement.specs.declared.cell.Cell.{Cell}
use Rattle.movement.specs.Movement.{Section, IsSection, HasCell, rows}
use Rattle.movement.specs.declared.row.Row.{Row}
use Rattle.movement.specs.Row.{Plays}
use Rattle.movement.proofs.SetLemmas.{same_set}

-- a table has one row in a round
pub same_at_table : (section : Section) (first second : Row) → IsSection section → Contains (rows section) first →
    Contains (rows section) second → first.table ≡ second.table → first.round ≡ second.round → first ≡ second
same_at_table section first second is_section = is_section.at_table first second

-- two rows in which a table plays the same board are one
pub same_cell : (section : Section) (first second : Row) (cell : Cell) → IsSection section →
    Contains (rows section) first → Contains (rows section) second → HasCell section first cell →
    HasCell section second cell → first ≡ second
same_cell section first second cell is_section in_first in_second first_has second_has =
    let a = is_section.in_range first in_first in
    let b = is_section.in_range second in_second in
    is_section.at_cell first second in_first in_second (first_has.table ∙ sym second_has.table)
    (same_set section first.set second.set cell.board a.from_set b.from_set first_has.board second_has.board)

-- two rows in which a pair plays the same board are one
pub same_play : (section : Section) (first second : Row) (pair : Pair) (board : ℕ) → IsSection section →
    Contains (rows section) first → Contains (rows section) second → Plays section first pair board →
    Plays section second pair board → first ≡ second
same_play section first second pair board is_section in_first in_second first_plays second_plays =
    let a = is_section.in_range first in_first in
    let b = is_section.in_range second in_second in
    is_section.at_set first second pair in_first in_second first_plays.seated second_plays.seated
    (same_set section first.set second.set board a.from_set b.from_set first_plays.board second_plays.board)
