-- own: the ranking of a session's pairs, by how much they earn of what they could have earned on the boards that are
-- shown. All is in hundredths of a scoring unit (Law 78A), so that an adjusted score (Law 12C2) earns whole numbers.
use Rattle.std.specs.Prelude.{ℕ, ◌-◌, ◌*◌, ℤ, if◌then◌else◌, List, [], ◌∷◌, ◌++◌, map, filter, length}
use Rattle.std.specs.List.{range_with_len, sum_by}
use Rattle.table_terms.specs.declared.pair.Pair.{Pair}
use Rattle.table_terms.specs.declared.side.Side.{Side}
use Rattle.table_terms.specs.declared.side.Side.TheVariants.{NorthSouth, EastWest}
use Rattle.table_terms.specs.declared.vulnerability.Vulnerability.{Vulnerability}
use Rattle.movement.specs.Movement.{Section, same_pair, is_pair_of, most_tables, most_boards}
use Rattle.scoring.specs.Law77.{ns_score_of}
use Rattle.standings.specs.Units.{units_of_score}
use Rattle.standings.specs.Order.{ranks_before}
use Rattle.scoring.specs.declared.standing.Standing.{Standing}
use Rattle.standings.specs.declared.cell_result.CellResult.{CellResult}
use Rattle.standings.specs.declared.cell_result.CellResult.TheVariants.{Confirmed, Ruled}
use Rattle.standings.specs.declared.table_result.TableResult.{TableResult}
use Rattle.standings.specs.declared.earning.Earning.{Earning}
use Rattle.standings.specs.Traveller.{north_south_at, east_west_at, scores_of}

-- how many results a session has at most: one at each table on each board
abbrev pub most_results : ℕ
most_results = most_tables * most_boards

-- a top, the most units that a result can earn: two for each other result that was played (Law 78A)
abbrev pub top_of : List ℤ → ℕ
top_of scores = 2 * (length scores - 1)

-- what a result earns for North-South: its units, or its percentage of a top
abbrev pub earned_north_south : Vulnerability → List ℤ → CellResult → ℕ
earned_north_south vulnerability scores (Confirmed outcome) =
    100 * units_of_score scores (ns_score_of outcome vulnerability)
earned_north_south vulnerability scores (Ruled north_south east_west) = north_south * top_of scores

-- what it earns for East-West: the rest of the top, or its percentage of a top
abbrev pub earned_east_west : Vulnerability → List ℤ → CellResult → ℕ
earned_east_west vulnerability scores (Confirmed outcome) =
    100 * top_of scores - 100 * units_of_score scores (ns_score_of outcome vulnerability)
earned_east_west vulnerability scores (Ruled north_south east_west) = east_west * top_of scores

-- what a result earns for its two pairs, and what they could have earned
abbrev pub earning_of : Section → Vulnerability → List ℤ → TableResult → Earning
earning_of section vulnerability scores found = record {
  north_south = north_south_at section found.cell;
  east_west = east_west_at section found.cell;
  for_north_south = earned_north_south vulnerability scores found.result;
  for_east_west = earned_east_west vulnerability scores found.result;
  top = 100 * top_of scores;
}

-- what the results of a board earn
unfoldable pub earnings_of : Section → Vulnerability → List TableResult → List Earning
earnings_of section vulnerability results =
    map (earning_of section vulnerability (scores_of vulnerability results)) results

-- what a pair earns by one result
abbrev pub earned_by : Pair → Earning → ℕ
earned_by pair earning =
    if same_pair earning.north_south pair then earning.for_north_south
    else if same_pair earning.east_west pair then earning.for_east_west
    else 0

-- what a pair could have earned by it
abbrev pub top_for : Pair → Earning → ℕ
top_for pair earning =
    if same_pair earning.north_south pair then earning.top
    else if same_pair earning.east_west pair then earning.top
    else 0

-- how a pair stands by what all results earn
unfoldable pub standing_of : List Earning → Pair → Standing
standing_of earnings pair = record {
  pair = pair;
  earned = sum_by (earned_by pair) earnings;
  tops = sum_by (top_for pair) earnings;
}

-- the pair that is named for a side and has this number
abbrev pub pair_on : Side → ℕ → Pair
pair_on side number = record { side = side; number = number }

-- the pairs that a section has of those that are named for a side, with so many numbers from one on
unfoldable pub pairs_on : Section → Side → ℕ → ℕ → List Pair
pairs_on section side from many = filter (is_pair_of section) (map (pair_on side) (range_with_len from many))

-- the pairs of a section: those that are named NS, and then those that are named EW, each by number
abbrev pub pairs_of : Section → List Pair
pairs_of section = pairs_on section NorthSouth 1 most_tables ++ pairs_on section EastWest 1 most_tables

-- others that are in their order, with a standing in its place among them
abbrev pub placed : Standing → List Standing → List Standing
placed standing [] = standing ∷ []
placed standing (other ∷ others) =
    if ranks_before standing other then standing ∷ (other ∷ others) else other ∷ placed standing others

-- standings in the order in which they rank
unfoldable pub ranked : List Standing → List Standing
ranked [] = []
ranked (standing ∷ standings) = placed standing (ranked standings)

-- the ranking of a section's pairs by what all results earn
abbrev pub ranking_of : Section → List Earning → List Standing
ranking_of section earnings = ranked (map (standing_of earnings) (pairs_of section))
