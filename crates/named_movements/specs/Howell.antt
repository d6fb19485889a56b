-- The Howells of 3 to 8 tables: each pair meets each other once, and plays each set once.
--
-- own: which Howells these are. Of 4 to 8 tables they are cyclic: pair 1 stays North-South at table 1, and after each round
-- every other pair goes to the seat of the one whom it follows, and each table to the next set. Of 3 tables every Howell
-- has a round in which all three play one set; in the one below that is the first round alone.
--
-- The pairs are numbered as clubs number them: pair 3 is the one that begins North-South at table 3, and with five tables
-- pair 8 the one that begins East-West there.
use Rattle.std.specs.Prelude.{
  ℕ,
  ◌+◌,
  ◌-◌,
  ◌*◌,
  ◌%◌,
  nat_eq,
  nat_le,
  if◌then◌else◌,
  List,
  [],
  ◌∷◌,
  length,
  slice_index,
  slice_index_or,
}
use Rattle.std.specs.List.{position_or_len}
use Rattle.table_terms.specs.declared.pair.Pair.{Pair}
use Rattle.table_terms.specs.declared.side.Side.TheVariants.{NorthSouth, EastWest}
use Rattle.movement.specs.declared.row.Row.{Row}

-- the pair that a number says
abbrev pub pair_of_number : ℕ → ℕ → Pair
pair_of_number tables number =
    if nat_le number tables
    then record { side = NorthSouth; number = number }
    else record { side = EastWest; number = number - tables }

-- ---- of 4 to 8 tables

-- the pairs that move, each before the one that follows it; the first follows the last. A list for each number of tables,
-- from 4 on
abbrev pub all_followers : List (List ℕ)
all_followers =
    (5 ∷ 2 ∷ 3 ∷ 6 ∷ 4 ∷ 8 ∷ 7 ∷ [])
    ∷ (6 ∷ 2 ∷ 7 ∷ 3 ∷ 4 ∷ 5 ∷ 9 ∷ 8 ∷ 10 ∷ [])
    ∷ (7 ∷ 2 ∷ 8 ∷ 3 ∷ 4 ∷ 5 ∷ 9 ∷ 12 ∷ 10 ∷ 6 ∷ 11 ∷ [])
    ∷ (8 ∷ 2 ∷ 9 ∷ 3 ∷ 4 ∷ 5 ∷ 10 ∷ 13 ∷ 7 ∷ 11 ∷ 14 ∷ 6 ∷ 12 ∷ [])
    ∷ (9 ∷ 2 ∷ 10 ∷ 11 ∷ 4 ∷ 3 ∷ 5 ∷ 6 ∷ 15 ∷ 16 ∷ 12 ∷ 14 ∷ 8 ∷ 7 ∷ 13 ∷ [])
    ∷ []

abbrev pub followers : ℕ → List ℕ
followers tables = slice_index_or all_followers (tables - 4) []

-- the sets with which the tables begin, counted from 0
abbrev pub all_first_sets : List (List ℕ)
all_first_sets =
    (0 ∷ 2 ∷ 4 ∷ 1 ∷ [])
    ∷ (0 ∷ 8 ∷ 2 ∷ 7 ∷ 1 ∷ [])
    ∷ (0 ∷ 7 ∷ 10 ∷ 6 ∷ 2 ∷ 8 ∷ [])
    ∷ (0 ∷ 6 ∷ 1 ∷ 11 ∷ 8 ∷ 4 ∷ 9 ∷ [])
    ∷ (0 ∷ 7 ∷ 12 ∷ 14 ∷ 2 ∷ 8 ∷ 6 ∷ 11 ∷ [])
    ∷ []

abbrev pub first_sets : ℕ → List ℕ
first_sets tables = slice_index_or all_first_sets (tables - 4) []

-- how many sets are played, and rounds at most
abbrev pub howell_sets : ℕ → ℕ
howell_sets tables = 2 * tables - 1

-- the pair that sits after so many rounds where another one began
abbrev pub seated_after : ℕ → ℕ → ℕ → ℕ
seated_after tables round first =
    if nat_eq first 1
    then 1
    else slice_index
    (followers tables)
    ((position_or_len (nat_eq first) (followers tables) + round) % length (followers tables))

-- what a table plays in a round, both counted from 0
abbrev pub cyclic_row : ℕ → ℕ → ℕ → Row
cyclic_row tables round table = record {
  round = round + 1;
  table = table + 1;
  set = (slice_index (first_sets tables) table + round) % howell_sets tables + 1;
  north_south = pair_of_number tables (seated_after tables round (table + 1));
  east_west = pair_of_number tables (seated_after tables round (tables + table + 1));
}

-- ---- of 3 tables, in five rounds: by round, and then by table

abbrev pub north_south_of_three : List ℕ
north_south_of_three = 1 ∷ 2 ∷ 3 ∷ 6 ∷ 4 ∷ 3 ∷ 1 ∷ 6 ∷ 3 ∷ 3 ∷ 4 ∷ 6 ∷ 1 ∷ 4 ∷ 5 ∷ []

abbrev pub east_west_of_three : List ℕ
east_west_of_three = 4 ∷ 5 ∷ 6 ∷ 1 ∷ 2 ∷ 5 ∷ 5 ∷ 4 ∷ 2 ∷ 1 ∷ 5 ∷ 2 ∷ 2 ∷ 3 ∷ 6 ∷ []

abbrev pub sets_of_three : List ℕ
sets_of_three = 1 ∷ 1 ∷ 1 ∷ 2 ∷ 5 ∷ 3 ∷ 4 ∷ 3 ∷ 2 ∷ 5 ∷ 2 ∷ 4 ∷ 3 ∷ 4 ∷ 5 ∷ []

-- what a table plays in a round, both counted from 0
abbrev pub row_of_three : ℕ → ℕ → Row
row_of_three round table = record {
  round = round + 1;
  table = table + 1;
  set = slice_index sets_of_three (round * 3 + table);
  north_south = pair_of_number 3 (slice_index north_south_of_three (round * 3 + table));
  east_west = pair_of_number 3 (slice_index east_west_of_three (round * 3 + table));
}

-- ---- both

-- what a table plays in a round, both counted from 0
abbrev pub howell_row : ℕ → ℕ → ℕ → Row
howell_row tables round table = if nat_eq tables 3 then row_of_three round table else cyclic_row tables round table
