-- The rows of a section: each is what some East-West pair plays in some round.
use Rattle.std.proofs.Common.{◌≡◌, ℕ, ◌+◌, ◌<◌, ◌≤◌, true, List, refl, map, ap, sym, Contains, Any, arith}
use Rattle.std.specs.List.{range_with_len}
use Rattle.table_terms.specs.declared.side.Side.TheVariants.{NorthSouth, EastWest}
use Rattle.mitchell.specs.Mitchell.{
  MitchellSection,
  MitchellRow,
  IsMitchell,
  row_of,
  full_rows,
  is_played,
  mitchell_rows,
  east_west_table,
  set_on,
}
use Rattle.mitchell.specs.MitchellRow.{IsMitchellRow}
use Rattle.mitchell.proofs.ContainsLemmas.{
  Contains-range,
  range-contains,
  Contains-map_range,
  map_range-contains,
  Contains-flat_map,
  flat_map-contains,
  Contains-filter,
  filter-contains,
  filter-passed,
}
use Rattle.mitchell.proofs.RoundLemmas.{most_rounds_cases}

-- the round and the East-West pair, counted from 0, whose row this is
pub record IsMade (section : MitchellSection) (row : MitchellRow) : Type 0 where
  pub round : ℕ
  pub pair : ℕ
  pub round_below : round < section.rounds
  pub pair_below : pair < section.tables
  pub made : row_of section.tables round pair ≡ row
  pub is_round : row.round ≡ round + 1
  pub is_table : row.table ≡ east_west_table section.tables pair round + 1
  pub is_set : row.set ≡ set_on section.tables (east_west_table section.tables pair round) round + 1
  pub is_opponent : row.north_south.number ≡ row.table
  pub is_pair : row.east_west.number ≡ pair + 1
  pub is_north_south : row.north_south.side ≡ NorthSouth
  pub is_east_west : row.east_west.side ≡ EastWest

-- the rows of a round
abbrev rows_of : MitchellSection → ℕ → List MitchellRow
rows_of section round = map (row_of section.tables round) (range_with_len 0 section.tables)

pub Contains-full_rows : (section : MitchellSection) (round pair : ℕ) → round < section.rounds → pair < section.tables →
    Contains (full_rows section) (row_of section.tables round pair)
unfolding full_rows
Contains-full_rows section round pair round_below pair_below =
    Contains-flat_map (rows_of section) (range_with_len 0 section.rounds) round (row_of section.tables round pair)
    (Contains-range section.rounds round round_below)
    (Contains-map_range (row_of section.tables round) section.tables pair pair_below)

-- the rows are those of the full movement whose pairs are both there
pub Contains-rows : (section : MitchellSection) (row : MitchellRow) → is_played section row ≡ true →
    Contains (full_rows section) row →
    Contains (mitchell_rows section) row
unfolding mitchell_rows
Contains-rows section row played among = Contains-filter (is_played section) (full_rows section) row played among

pub in_full : (section : MitchellSection) (row : MitchellRow) → Contains (mitchell_rows section) row →
    Contains (full_rows section) row
unfolding mitchell_rows
in_full section row among = filter-contains (is_played section) (full_rows section) row among

pub played_of : (section : MitchellSection) (row : MitchellRow) → Contains (mitchell_rows section) row →
    is_played section row ≡ true
unfolding mitchell_rows
played_of section row among = filter-passed (is_played section) (full_rows section) row among

pub made_of_full : (section : MitchellSection) (row : MitchellRow) → Contains (full_rows section) row →
    IsMade section row
unfolding full_rows
made_of_full section row among =
    let found = flat_map-contains (rows_of section) (range_with_len 0 section.rounds) row among in
    let inside = map_range-contains (row_of section.tables found.0) section.tables row found.2 in
    record {
      round = found.0;
      pair = inside.0;
      round_below = range-contains section.rounds found.0 found.1;
      pair_below = inside.1;
      made = inside.2;
      is_round = ap (λ (row : MitchellRow). row.round) (sym inside.2);
      is_table = ap (λ (row : MitchellRow). row.table) (sym inside.2);
      is_set = ap (λ (row : MitchellRow). row.set) (sym inside.2);
      is_opponent = rw (← inside.2) refl;
      is_pair = ap (λ (row : MitchellRow). row.east_west.number) (sym inside.2);
      is_north_south = ap (λ (row : MitchellRow). row.north_south.side) (sym inside.2);
      is_east_west = ap (λ (row : MitchellRow). row.east_west.side) (sym inside.2);
    }

pub made_of : (section : MitchellSection) (row : MitchellRow) → Contains (mitchell_rows section) row →
    IsMade section row
made_of section row among = made_of_full section row (in_full section row among)

-- one round and one pair have one row
pub same_made : (section : MitchellSection) (first second : MitchellRow) (a : IsMade section first)
    (b : IsMade section second) →
    a.round ≡ b.round → a.pair ≡ b.pair → first ≡ second
same_made section first second a b same_round same_pair =
    let first_made = a.made in
    let second_made = b.made in
    cc

-- some row of the full movement is as said, if that of a round and a pair is
pub Any-full_rows : (section : MitchellSection) (P : MitchellRow → Type 0) (round pair : ℕ) → round < section.rounds →
    pair < section.tables → P (row_of section.tables round pair) → Any P (full_rows section)
Any-full_rows section P round pair round_below pair_below holds =
    let among = Contains-full_rows section round pair round_below pair_below in
    (among.0, row_of section.tables round pair, among.1, among.2, holds)

-- a section has no more rounds than tables
pub rounds-le : (section : MitchellSection) → IsMitchell section → section.rounds ≤ section.tables
rounds-le section is_section =
    let most = most_rounds_cases section.tables in
    omega (arith, is_section.not_too_many_rounds)

-- what a row of the section can have
pub in_full_range : (section : MitchellSection) (row : MitchellRow) → Contains (full_rows section) row →
    IsMitchellRow section row
in_full_range section row among =
    let made = made_of_full section row among in
    record {
      from_round = omega arith;
      to_round = omega arith;
      from_table = omega arith;
      to_table = omega arith;
      from_set = omega arith;
      to_set = omega arith;
      north_south = rw (← made.made) refl;
      east_west = made.is_east_west;
      from_pair = omega arith;
      to_pair = omega arith;
    }

pub in_range : (section : MitchellSection) (row : MitchellRow) → Contains (mitchell_rows section) row →
    IsMitchellRow section row
in_range section row among = in_full_range section row (in_full section row among)

-- two equal sections have as many tables
pub same_tables : {a b : MitchellSection} → a ≡ b → a.tables ≡ b.tables
same_tables same = ap (λ (section : MitchellSection). section.tables) same
