-- The movement of one section, as the list of who plays what, where and when.
--
-- own: a movement is its list of rows, of whatever kind it is; the plain Mitchell is one such list. A pair is named by
-- the place where it begins, and whoever would meet an absent pair sits out: that table plays nothing in that round.
use Rattle.std.specs.Prelude.{
  ◌≡◌,
  ◌≢◌,
  ℕ,
  ◌-◌,
  ◌*◌,
  ◌<◌,
  ◌≤◌,
  Bool,
  ◌&&◌,
  nat_le,
  Option,
  List,
  Any,
  Contains,
}
use Rattle.small_sets.specs.Numbers.{has_number}
use Rattle.table_terms.specs.declared.pair.Pair.{Pair}
use Rattle.table_terms.specs.declared.side.Side.{Side}
use Rattle.table_terms.specs.declared.side.Side.TheVariants.{NorthSouth, EastWest}
use Rattle.movement.specs.declared.cell.Cell.{Cell}
use Rattle.movement.specs.declared.limits.Limits.{Limits}
use Rattle.movement.specs.declared.row.Row.{Row}
use Rattle.movement.specs.declared.movement.TheConstants.Movement.{MOST_SETS}
use Rattle.movement.specs.Sound.{Seats, IsInRange}
pub use Rattle.mitchell.specs.Mitchell.{same_side, same_pair, is_absent}
pub use Rattle.mitchell.specs.Mitchell.{least_tables, most_tables, most_per_set, most_boards}

-- a section: its tables, the rounds that are played, its sets and the boards in a set, the pair that isn't there, if
-- one isn't, the numbers of the pairs that are named for each side, whether its movement was named, and its rows
pub record Section : Type 0 where
  pub tables : ℕ
  pub rounds : ℕ
  pub sets : ℕ
  pub per_set : ℕ
  pub absent : Option Pair
  pub north_south : List ℕ
  pub east_west : List ℕ
  pub is_named : Bool
  pub rows : List Row

-- the movement: who plays what, where and when
abbrev pub rows : Section → List Row
rows section = section.rows

-- the numbers of the pairs that are named for a side
abbrev pub numbers_on : Section → Side → List ℕ
numbers_on section NorthSouth = section.north_south
numbers_on section EastWest = section.east_west

-- whether the section has the pair; pairs are numbered from 1
abbrev pub is_pair_of : Section → Pair → Bool
is_pair_of section pair = nat_le 1 pair.number && has_number (numbers_on section pair.side) pair.number

-- how many boards the section plays
abbrev pub boards_of : Section → ℕ
boards_of section = section.sets * section.per_set

-- whether the section has a board of this number
abbrev pub has_board : Section → ℕ → Bool
has_board section board = nat_le 1 board && nat_le board (boards_of section)

-- a board of a set: the boards of set 1 come first, then those of set 2, and so on
pub record IsOfSet (section : Section) (set board : ℕ) : Type 0 where
  pub after : (set - 1) * section.per_set < board
  pub within : board ≤ set * section.per_set

-- the cell stands in the row: its table plays the board
pub record HasCell (section : Section) (row : Row) (cell : Cell) : Type 0 where
  pub table : row.table ≡ cell.table
  pub board : IsOfSet section row.set cell.board

-- a cell of the movement: its table is scheduled to play the board
abbrev pub IsCell : Section → Cell → Type 0
IsCell section cell = Any (λ row. HasCell section row cell) (rows section)

-- how many sets a section has at most
abbrev pub most_sets : ℕ
most_sets = MOST_SETS

-- in which limits the section's rows stay, when so many tables may share a set
abbrev pub limits_of : Section → ℕ → Limits
limits_of section shared_by = record {
  rounds = section.rounds;
  tables = section.tables;
  sets = section.sets;
  shared_by = shared_by;
}

-- what is kept of every section: its limits, and that two rows which would clash are one
pub record IsSection (section : Section) : Type 0 where
  pub enough_tables : least_tables ≤ section.tables
  pub not_too_many_tables : section.tables ≤ most_tables
  pub enough_rounds : 1 ≤ section.rounds
  pub not_too_many_sets : section.sets ≤ most_sets
  pub enough_boards : 1 ≤ section.per_set
  pub not_too_many_boards_in_a_set : section.per_set ≤ most_per_set
  pub not_too_many_boards : boards_of section ≤ most_boards
  -- each row is in range, whoever shares its set
  pub in_range : (row : Row) → Contains (rows section) row → IsInRange (limits_of section 0) row
  -- in a round a table has one row
  pub at_table : (first second : Row) → Contains (rows section) first → Contains (rows section) second →
      first.table ≡ second.table → first.round ≡ second.round → first ≡ second
  -- a table plays a set once
  pub at_cell : (first second : Row) → Contains (rows section) first → Contains (rows section) second →
      first.table ≡ second.table → first.set ≡ second.set → first ≡ second
  -- in a round a pair sits at one table
  pub in_round : (first second : Row) (pair : Pair) → Contains (rows section) first →
      Contains (rows section) second → Seats first pair → Seats second pair → first.round ≡ second.round →
      first ≡ second
  -- a pair plays a set once
  pub at_set : (first second : Row) (pair : Pair) → Contains (rows section) first → Contains (rows section) second →
      Seats first pair → Seats second pair → first.set ≡ second.set → first ≡ second
  -- two pairs meet once
  pub opponents : (first second : Row) (pair other : Pair) → Contains (rows section) first →
      Contains (rows section) second → pair ≢ other → Seats first pair → Seats first other → Seats second pair →
      Seats second other → first ≡ second
