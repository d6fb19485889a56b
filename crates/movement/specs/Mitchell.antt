-- The plain Mitchell movement, as such a list.
use Rattle.std.specs.Prelude.{Bool, false, not, ◌&&◌, nat_le, List, map}
use Rattle.table_terms.specs.declared.pair.Pair.{Pair}
use Rattle.table_terms.specs.declared.side.Side.TheVariants.{NorthSouth, EastWest}
use Rattle.mitchell.specs.Mitchell.{MitchellSection, MitchellRow, mitchell_rows}
use Rattle.movement.specs.declared.limits.Limits.{Limits}
use Rattle.movement.specs.Listed.{by_place, pairs_that}
use Rattle.movement.specs.Movement.{Section, is_absent}
use Rattle.movement.specs.declared.row.Row.{Row}

-- a row of the Mitchell movement
abbrev pub row_of_mitchell : MitchellRow → Row
row_of_mitchell row = record {
  round = row.round;
  table = row.table;
  set = row.set;
  north_south = row.north_south;
  east_west = row.east_west;
}

-- the rows of a section's Mitchell movement
unfoldable pub rows_of_mitchell : MitchellSection → List Row
rows_of_mitchell section = map row_of_mitchell (mitchell_rows section)

-- as many sets as tables, and each at one table a round
abbrev pub mitchell_limits : MitchellSection → Limits
mitchell_limits section =
    record { rounds = section.rounds; tables = section.tables; sets = section.tables; shared_by = 1 }

-- whether the section has the pair: on each side a pair for each table, but for one that is absent
abbrev pub is_pair_of_mitchell : MitchellSection → Pair → Bool
is_pair_of_mitchell section pair = nat_le pair.number section.tables && not (is_absent section.absent pair)

-- the Mitchell movement of a section: its rows stand in the order of places
abbrev pub mitchell_section : MitchellSection → Section
mitchell_section section = record {
  tables = section.tables;
  rounds = section.rounds;
  sets = section.tables;
  per_set = section.per_set;
  absent = section.absent;
  north_south = pairs_that (is_pair_of_mitchell section) NorthSouth;
  east_west = pairs_that (is_pair_of_mitchell section) EastWest;
  is_named = false;
  rows = by_place (rows_of_mitchell section);
}
