-- What a row of the movement says of a table, a pair and a board, and in which range its numbers are.
use Rattle.std.specs.Prelude.{◌≡◌, ℕ, ◌≤◌}
use Rattle.table_terms.specs.declared.pair.Pair.{Pair}
use Rattle.movement.specs.Movement.{Section, IsOfSet, HasCell, boards_of}
use Rattle.movement.specs.declared.row.Row.{Row}
use Rattle.movement.specs.declared.cell.Cell.{Cell}
use Rattle.movement.specs.declared.sitting.Sitting.{Sitting}
pub use Rattle.movement.specs.Sound.{Seats, IsInRange}

-- the row is what the table plays in the round
pub record IsAt (row : Row) (at_table in_round : ℕ) : Type 0 where
  pub table : row.table ≡ at_table
  pub round : row.round ≡ in_round

-- the row seats the pair at a set that has the board
pub record Plays (section : Section) (row : Row) (pair : Pair) (number : ℕ) : Type 0 where
  pub seated : Seats row pair
  pub board : IsOfSet section row.set number

-- the cell stands in the row, and this is who plays it and when
pub record IsPlayedBy (section : Section) (cell : Cell) (sitting : Sitting) (row : Row) : Type 0 where
  pub has : HasCell section row cell
  pub round : row.round ≡ sitting.round
  pub north_south : row.north_south ≡ sitting.north_south
  pub east_west : row.east_west ≡ sitting.east_west

-- the tables and boards that a cell of the section can have
pub record IsCellInRange (section : Section) (cell : Cell) : Type 0 where
  pub from_table : 1 ≤ cell.table
  pub to_table : cell.table ≤ section.tables
  pub from_board : 1 ≤ cell.board
  pub to_board : cell.board ≤ boards_of section
