-- The movement of a list of rows.
use Rattle.std.specs.Prelude.{ℕ, ◌*◌, ◌≤◌, Bool, true, not, ◌&&◌, nat_eq, Option, List, filter}
use Rattle.std.specs.List.{filter_map, find, list_any, range_with_len}
use Rattle.small_sets.specs.Numbers.{numbers_that}
use Rattle.table_terms.specs.declared.pair.Pair.{Pair}
use Rattle.table_terms.specs.declared.side.Side.{Side}
use Rattle.table_terms.specs.declared.side.Side.TheVariants.{NorthSouth, EastWest}
use Rattle.movement.specs.declared.limits.Limits.{Limits}
use Rattle.movement.specs.Kept.{places, place_of}
use Rattle.movement.specs.Movement.{Section, is_absent, least_tables, most_tables, most_sets, most_per_set, most_boards}
use Rattle.movement.specs.declared.row.Row.{Row}
use Rattle.movement.specs.Sound.{seats}

-- the numbers of a movement, but for those of its rows, are within limits
pub record AreWithin (limits : Limits) (per_set : ℕ) : Type 0 where
  pub enough_tables : least_tables ≤ limits.tables
  pub not_too_many_tables : limits.tables ≤ most_tables
  pub enough_rounds : 1 ≤ limits.rounds
  pub not_too_many_sets : limits.sets ≤ most_sets
  pub enough_boards : 1 ≤ per_set
  pub not_too_many_boards_in_a_set : per_set ≤ most_per_set
  pub not_too_many_boards : limits.sets * per_set ≤ most_boards

-- whether the row stands at a place
abbrev pub is_at : ℕ → Row → Bool
is_at place row = nat_eq (place_of row.set row.table) place

-- the rows of a list in the order of their places: by set, then by table
unfoldable pub by_place : List Row → List Row
by_place rows = filter_map (λ place. find (is_at place) rows) (range_with_len 0 places)

-- whether both pairs of a row are there
abbrev pub are_there : Option Pair → Row → Bool
are_there absent row = not (is_absent absent row.north_south) && not (is_absent absent row.east_west)

-- whether some row seats the pair
abbrev pub is_seated : List Row → Pair → Bool
is_seated rows pair = list_any (λ row. seats row pair) rows

-- whether a pair is there, and some row seats it
abbrev pub plays_in : Option Pair → List Row → Pair → Bool
plays_in absent rows pair = not (is_absent absent pair) && is_seated rows pair

-- the pair of a side's name that has this number
abbrev pub pair_numbered : Side → ℕ → Pair
pair_numbered side number = record { side = side; number = number }

-- the numbers of the pairs of a side's name that pass a test
abbrev pub pairs_that : (Pair → Bool) → Side → List ℕ
pairs_that test side = numbers_that most_tables (λ number. test (pair_numbered side number))

-- the movement of a list of rows in which a pair may be absent: its rows aren't played, and the others stand in the
-- order of places
abbrev pub listed_section : Limits → ℕ → Option Pair → List Row → Section
listed_section limits per_set absent rows = record {
  tables = limits.tables;
  rounds = limits.rounds;
  sets = limits.sets;
  per_set = per_set;
  absent = absent;
  north_south = pairs_that (plays_in absent rows) NorthSouth;
  east_west = pairs_that (plays_in absent rows) EastWest;
  is_named = true;
  rows = by_place (filter (are_there absent) rows);
}
