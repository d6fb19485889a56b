-- Which lists of rows can be played as a movement, and why a row can't stand after those before it.
--
-- own: what a list must keep so that it can be played, and the order in which its faults are looked for. That a pair
-- plays a set once, and that a table plays it once, is what makes a table and a board one result of two pairs.
use Rattle.std.specs.Prelude.{
  ◌≡◌,
  ◌≢◌,
  ℕ,
  ◌<◌,
  ◌≤◌,
  Bool,
  true,
  false,
  not,
  ◌&&◌,
  ◌||◌,
  ◌⊎◌,
  nat_eq,
  nat_le,
  List,
  length,
  take,
  get_or,
  All,
  count_by,
}
use Rattle.std.specs.List.{AllPairs, list_any}
use Rattle.small_sets.specs.First.{IsFirst}
use Rattle.table_terms.specs.declared.pair.Pair.{Pair}
use Rattle.mitchell.specs.Mitchell.{same_pair, most_tables}
use Rattle.movement.specs.declared.limits.Limits.{Limits}
use Rattle.movement.specs.declared.misplaced_row.MisplacedRow.{MisplacedRow}
use Rattle.movement.specs.declared.row.Row.{Row}
use Rattle.movement.specs.declared.movement_fault.MovementFault.{MovementFault}
use Rattle.movement.specs.declared.movement_fault.MovementFault.TheVariants.{
  OutOfRange,
  TableTwice,
  SetAtTableAgain,
  PairTwice,
  SetAgain,
  OpponentsAgain,
  SharedByTooMany,
}

-- ---- what a list of rows keeps

-- the row seats the pair, North-South or East-West
abbrev pub Seats : Row → Pair → Type 0
Seats row pair = (row.north_south ≡ pair) ⊎ (row.east_west ≡ pair)

-- the row seats one of the other row's pairs
abbrev pub SharesPair : Row → Row → Type 0
SharesPair row other = Seats row other.north_south ⊎ Seats row other.east_west

-- the row seats both
abbrev pub SharesBoth : Row → Row → Type 0
SharesBoth row other = Seats row other.north_south × Seats row other.east_west

-- whether the row plays the other row's set in the other row's round
abbrev pub shares_boards : Row → Row → Bool
shares_boards row other = nat_eq row.round other.round && nat_eq row.set other.set

-- the rounds, tables, sets and pairs that a row can have
pub record IsInRange (limits : Limits) (row : Row) : Type 0 where
  pub from_round : 1 ≤ row.round
  pub to_round : row.round ≤ limits.rounds
  pub from_table : 1 ≤ row.table
  pub to_table : row.table ≤ limits.tables
  pub from_set : 1 ≤ row.set
  pub to_set : row.set ≤ limits.sets
  pub from_north_south : 1 ≤ row.north_south.number
  pub to_north_south : row.north_south.number ≤ most_tables
  pub from_east_west : 1 ≤ row.east_west.number
  pub to_east_west : row.east_west.number ≤ most_tables
  pub two_pairs : row.north_south ≢ row.east_west

-- the rows can be played as a movement: of any two of them, and of each with those before it
pub record IsSound (limits : Limits) (rows : List Row) : Type 0 where
  pub in_range : All (IsInRange limits) rows
  -- in a round a table has one row
  pub tables : AllPairs (λ earlier row. row.round ≡ earlier.round → row.table ≢ earlier.table) rows
  -- a table plays a set once
  pub cells : AllPairs (λ earlier row. row.table ≡ earlier.table → row.set ≢ earlier.set) rows
  -- in a round a pair sits at one table
  pub rounds : AllPairs (λ earlier row. row.round ≡ earlier.round → ¬ SharesPair row earlier) rows
  -- a pair plays a set once
  pub sets : AllPairs (λ earlier row. row.set ≡ earlier.set → ¬ SharesPair row earlier) rows
  -- two pairs meet once
  pub opponents : AllPairs (λ earlier row. ¬ SharesBoth row earlier) rows
  -- no more tables play a set in a round than may share it
  pub shared : (k : ℕ) (d : Row) → k < length rows →
      count_by (shares_boards (get_or rows k d)) (take k rows) < limits.shared_by

-- ---- the same as tests

-- whether the row seats the pair
abbrev pub seats : Row → Pair → Bool
seats row pair = same_pair row.north_south pair || same_pair row.east_west pair

-- whether the row seats one of the other row's pairs
abbrev pub shares_pair : Row → Row → Bool
shares_pair row other = seats row other.north_south || seats row other.east_west

-- whether the row seats both
abbrev pub shares_both : Row → Row → Bool
shares_both row other = seats row other.north_south && seats row other.east_west

-- whether a number is from 1 to the most
abbrev pub is_up_to : ℕ → ℕ → Bool
is_up_to number most = nat_le 1 number && nat_le number most

-- whether the row's numbers can be had, and its pairs are two
abbrev pub is_in_range : Limits → Row → Bool
is_in_range limits row =
    is_up_to row.round limits.rounds
    && (is_up_to row.table limits.tables
    && (is_up_to row.set limits.sets
    && (is_up_to row.north_south.number most_tables
    && (is_up_to row.east_west.number most_tables && not (same_pair row.north_south row.east_west)))))

-- whether a row and an earlier one have in common what no two rows may have
abbrev pub clashes : MovementFault → Row → Row → Bool
clashes OutOfRange row other = false
clashes TableTwice row other = nat_eq row.round other.round && nat_eq row.table other.table
clashes SetAtTableAgain row other = nat_eq row.table other.table && nat_eq row.set other.set
clashes PairTwice row other = nat_eq row.round other.round && shares_pair row other
clashes SetAgain row other = nat_eq row.set other.set && shares_pair row other
clashes OpponentsAgain row other = shares_both row other
clashes SharedByTooMany row other = false

-- whether a row can't stand after others for a reason that lies in none of them alone
abbrev pub is_ill_placed : Limits → List Row → Row → MovementFault → Bool
is_ill_placed limits before row OutOfRange = not (is_in_range limits row)
is_ill_placed limits before row TableTwice = false
is_ill_placed limits before row SetAtTableAgain = false
is_ill_placed limits before row PairTwice = false
is_ill_placed limits before row SetAgain = false
is_ill_placed limits before row OpponentsAgain = false
is_ill_placed limits before row SharedByTooMany = nat_le limits.shared_by (count_by (shares_boards row) before)

-- whether a row can't stand after others for a reason
unfoldable pub has_fault : Limits → List Row → Row → MovementFault → Bool
has_fault limits before row fault = is_ill_placed limits before row fault || list_any (clashes fault row) before

-- the place of a fault in the order
abbrev pub fault_number : MovementFault → ℕ
fault_number OutOfRange = 0
fault_number TableTwice = 1
fault_number SetAtTableAgain = 2
fault_number PairTwice = 3
fault_number SetAgain = 4
fault_number OpponentsAgain = 5
fault_number SharedByTooMany = 6

-- the row at a place, after those before it, has no fault
abbrev pub HasNoFault : Limits → List Row → ℕ → Type 0
HasNoFault limits rows k = (d : Row) (fault : MovementFault) →
    has_fault limits (take k rows) (get_or rows k d) fault ≡ false

-- the first row that can't stand after those before it, with the first reason why
pub record IsFirstMisplaced (limits : Limits) (rows : List Row) (misplaced : MisplacedRow) : Type 0 where
  pub within : misplaced.place < length rows
  pub first : (d : Row) →
      IsFirst fault_number
      (λ fault. has_fault limits (take misplaced.place rows) (get_or rows misplaced.place d) fault ≡ true)
      misplaced.fault
  pub before : (k : ℕ) → k < misplaced.place → HasNoFault limits rows k
