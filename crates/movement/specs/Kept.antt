-- What is kept of a movement: who plays each set at each table, one place after the other.
use Rattle.std.specs.Prelude.{ℕ, ◌+◌, ◌-◌, ◌*◌, ◌/◌, ◌%◌, Option, None, List, slice_index_or}
use Rattle.std.specs.List.{filter_map, range_with_len}
use Rattle.std.specs.Option.{option_map}
use Rattle.movement.specs.declared.row.Row.{Row}
use Rattle.movement.specs.declared.sitting.Sitting.{Sitting}

-- how many places there are: a table at each set
abbrev pub places : ℕ
places = 496

-- the place of a table at a set
abbrev pub place_of : ℕ → ℕ → ℕ
place_of set table = (set - 1) * 16 + (table - 1)

-- who sits in a row, and when
abbrev pub sitting_of : Row → Sitting
sitting_of row = record { round = row.round; north_south = row.north_south; east_west = row.east_west }

-- the row that is kept at a place
abbrev pub row_of_sitting : ℕ → Sitting → Row
row_of_sitting place sitting = record {
  round = sitting.round;
  table = place % 16 + 1;
  set = place / 16 + 1;
  north_south = sitting.north_south;
  east_west = sitting.east_west;
}

-- the row at a place, if one is kept there
abbrev pub row_at : List (Option Sitting) → ℕ → Option Row
row_at sittings place = option_map (row_of_sitting place) (slice_index_or sittings place None)

-- all rows that are kept
unfoldable pub kept_rows : List (Option Sitting) → List Row
kept_rows sittings = filter_map (row_at sittings) (range_with_len 0 places)
