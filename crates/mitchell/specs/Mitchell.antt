-- The Mitchell movement of one section, as the list of who plays what, where and when.
--
-- own: the movement is the plain Mitchell. The North-South pairs stay at their tables, the East-West pairs move up one
-- table a round, and the sets of boards down one. At an even number of tables the East-West pairs skip a table in the
-- middle of the session, so that they meet no set again. With an odd number of pairs one of them is absent, and whoever
-- would meet it sits out: that table plays nothing in that round.
use Rattle.std.specs.Prelude.{
  ℕ,
  ◌+◌,
  ◌-◌,
  ◌*◌,
  ◌/◌,
  ◌%◌,
  ◌≤◌,
  Bool,
  true,
  false,
  not,
  nat_eq,
  Option,
  None,
  Some,
  IfSome,
  List,
  map,
  filter,
  ◌==◌,
  ◌&&◌,
  nat_le,
  if◌then◌else◌,
}
use Rattle.std.specs.List.{flat_map, range_with_len}
use Rattle.table_terms.specs.declared.pair.Pair.{Pair}
use Rattle.table_terms.specs.declared.side.Side.{Side}
use Rattle.table_terms.specs.declared.side.Side.TheVariants.{NorthSouth, EastWest}
use Rattle.mitchell.specs.declared.mitchell.TheConstants.Mitchell.{
  LEAST_TABLES,
  MOST_TABLES,
  MOST_PER_SET,
  MOST_BOARDS,
}

-- a section: its tables, the rounds that are played, the boards in a set, and the pair that isn't there, if one isn't
pub record MitchellSection : Type 0 where
  pub tables : ℕ
  pub rounds : ℕ
  pub per_set : ℕ
  pub absent : Option Pair

-- what one table plays in one round; rounds, tables and sets are counted from 1
pub record MitchellRow : Type 0 where
  pub round : ℕ
  pub table : ℕ
  pub set : ℕ
  pub north_south : Pair
  pub east_west : Pair

-- the set on a table in a round, all counted from 0: the sets move down one table a round
abbrev pub set_on : ℕ → ℕ → ℕ → ℕ
set_on tables table round = (table + round) % tables

-- whether the East-West pairs have skipped a table by a round, counted from 0
abbrev pub has_skipped : ℕ → ℕ → Bool
has_skipped tables round = (tables % 2 == 0) && nat_le (tables / 2) round

-- the table of an East-West pair in a round, all counted from 0: up one table a round, and one more at the skip
abbrev pub east_west_table : ℕ → ℕ → ℕ → ℕ
east_west_table tables east_west round = (east_west + round + (if has_skipped tables round then 1 else 0)) % tables

-- what an East-West pair plays in a round, both counted from 0
abbrev pub row_of : ℕ → ℕ → ℕ → MitchellRow
row_of tables round east_west =
    let table = east_west_table tables east_west round in
    record {
      round = round + 1;
      table = table + 1;
      set = set_on tables table round + 1;
      north_south = record { side = NorthSouth; number = table + 1 };
      east_west = record { side = EastWest; number = east_west + 1 };
    }

-- what each East-West pair would play in each round if every pair were there
unfoldable pub full_rows : MitchellSection → List MitchellRow
full_rows section =
    flat_map
    (λ round. map (row_of section.tables round) (range_with_len 0 section.tables))
    (range_with_len 0 section.rounds)

abbrev pub same_side : Side → Side → Bool
same_side NorthSouth NorthSouth = true
same_side NorthSouth EastWest = false
same_side EastWest NorthSouth = false
same_side EastWest EastWest = true

abbrev pub same_pair : Pair → Pair → Bool
same_pair pair other = same_side pair.side other.side && nat_eq pair.number other.number

-- whether a pair is the one that isn't there
abbrev pub is_absent : Option Pair → Pair → Bool
is_absent None pair = false
is_absent (Some absent) pair = same_pair absent pair

-- whether both pairs of a row are there
abbrev pub is_played : MitchellSection → MitchellRow → Bool
is_played section row = not (is_absent section.absent row.north_south) && not (is_absent section.absent row.east_west)

-- the movement: what each East-West pair plays in each round; a row with the absent pair isn't played
unfoldable pub mitchell_rows : MitchellSection → List MitchellRow
mitchell_rows section = filter (is_played section) (full_rows section)

-- the most rounds that can be played without a pair meeting a set again
abbrev pub most_rounds : ℕ → ℕ
most_rounds tables = if tables % 2 == 0 then tables - 1 else tables

-- how many tables a section has at least
abbrev pub least_tables : ℕ
least_tables = LEAST_TABLES

-- how many tables a section has at most
abbrev pub most_tables : ℕ
most_tables = MOST_TABLES

-- how many boards a set has at most
abbrev pub most_per_set : ℕ
most_per_set = MOST_PER_SET

-- how many boards a section plays at most
abbrev pub most_boards : ℕ
most_boards = MOST_BOARDS

-- what is kept of every section
pub record IsMitchell (section : MitchellSection) : Type 0 where
  pub enough_tables : least_tables ≤ section.tables
  pub not_too_many_tables : section.tables ≤ most_tables
  pub enough_rounds : 1 ≤ section.rounds
  pub not_too_many_rounds : section.rounds ≤ most_rounds section.tables
  pub enough_boards : 1 ≤ section.per_set
  pub not_too_many_boards_in_a_set : section.per_set ≤ most_per_set
  pub not_too_many_boards : section.tables * section.per_set ≤ most_boards
  pub absent_in_range : IfSome section.absent (λ pair. (1 ≤ pair.number) × (pair.number ≤ section.tables))
