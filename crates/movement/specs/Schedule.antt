-- Which cells of the movement are played, by whom and when, as tests.
use Rattle.std.specs.Prelude.{ℕ, ◌-◌, ◌*◌, Bool, ◌&&◌, nat_eq, nat_lt, nat_le}
use Rattle.std.specs.List.{list_any}
use Rattle.table_terms.specs.declared.pair.Pair.{Pair}
use Rattle.movement.specs.declared.cell.Cell.{Cell}
use Rattle.movement.specs.Movement.{Section, rows}
use Rattle.movement.specs.declared.row.Row.{Row}
pub use Rattle.movement.specs.Sound.{seats}

-- whether the set has the board
abbrev pub is_of_set : Section → ℕ → ℕ → Bool
is_of_set section set board = nat_lt ((set - 1) * section.per_set) board && nat_le board (set * section.per_set)

-- whether the cell stands in the row: the row has its table, and the row's set has its board
abbrev pub stands_in : Section → Cell → Row → Bool
stands_in section cell row = nat_eq row.table cell.table && is_of_set section row.set cell.board

-- whether the table is scheduled to play the board
abbrev pub is_scheduled : Section → Cell → Bool
is_scheduled section cell = list_any (stands_in section cell) (rows section)

-- whether the cell is played after a round
abbrev pub is_later : Section → Cell → ℕ → Bool
is_later section cell round = list_any (λ row. stands_in section cell row && nat_lt round row.round) (rows section)

-- whether the row seats the pair at a set that has the board
abbrev pub plays : Section → Pair → ℕ → Row → Bool
plays section pair board row = seats row pair && is_of_set section row.set board
