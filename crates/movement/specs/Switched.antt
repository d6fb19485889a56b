-- An arrow switch: from some round on the two pairs of each table sit the other way round.
use Rattle.std.specs.Prelude.{ℕ, nat_lt, if◌then◌else◌, List, map}
use Rattle.movement.specs.declared.row.Row.{Row}

-- the row with its two pairs the other way round
abbrev pub turned : Row → Row
turned row = record {
  round = row.round;
  table = row.table;
  set = row.set;
  north_south = row.east_west;
  east_west = row.north_south;
}

-- the row, the other way round if it is after so many rounds
abbrev pub switched_after : ℕ → Row → Row
switched_after rounds row = if nat_lt rounds row.round then turned row else row

-- the rows, with those of the later rounds the other way round
unfoldable pub switched : ℕ → List Row → List Row
switched rounds rows = map (switched_after rounds) rows
