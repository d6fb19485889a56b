-- A board's traveller: the results that are shown, each with what it scores by Law 77 and the units that this earns
-- among the others by Law 78A. An adjusted score (Law 12C2) has percentages in their place.
use Rattle.std.specs.Prelude.{ℤ, Option, Some, None, List, map}
use Rattle.std.specs.List.{find, filter_map}
use Rattle.table_terms.specs.declared.pair.Pair.{Pair}
use Rattle.table_terms.specs.declared.side.Side.TheVariants.{NorthSouth, EastWest}
use Rattle.table_terms.specs.declared.vulnerability.Vulnerability.{Vulnerability}
use Rattle.movement.specs.declared.cell.Cell.{Cell}
use Rattle.movement.specs.declared.row.Row.{Row}
use Rattle.movement.specs.Movement.{Section, rows}
use Rattle.movement.specs.Schedule.{stands_in}
use Rattle.scoring.specs.Law77.{ns_score_of}
use Rattle.standings.specs.Units.{units_of_score}
use Rattle.standings.specs.declared.cell_result.CellResult.{CellResult}
use Rattle.standings.specs.declared.cell_result.CellResult.TheVariants as cell
use Rattle.standings.specs.declared.table_result.TableResult.{TableResult}
use Rattle.standings.specs.declared.traveller_row.TravellerRow.{TravellerRow}
use Rattle.standings.specs.declared.row_result.RowResult.{RowResult}
use Rattle.standings.specs.declared.row_result.RowResult.TheVariants as row

-- the row of the movement in which a cell stands
abbrev pub row_of_cell : Section → Cell → Option Row
row_of_cell section cell = find (stands_in section cell) (rows section)

-- the North-South pair of a cell, by its row; a cell without a row, of which there is no result, gets its table's
-- number
abbrev pub north_south_by : Cell → Option Row → Pair
north_south_by cell None = record { side = NorthSouth; number = cell.table }
north_south_by cell (Some row) = row.north_south

-- its East-West pair, by its row; a cell without a row gets the number 0, which no pair has
abbrev pub east_west_by : Option Row → Pair
east_west_by None = record { side = EastWest; number = 0 }
east_west_by (Some row) = row.east_west

-- the pair that sits North-South where a cell is played
abbrev pub north_south_at : Section → Cell → Pair
north_south_at section cell = north_south_by cell (row_of_cell section cell)

-- the pair that sits East-West there
abbrev pub east_west_at : Section → Cell → Pair
east_west_at section cell = east_west_by (row_of_cell section cell)

-- what a result scores for North-South, if it was played
abbrev pub result_score : Vulnerability → CellResult → Option ℤ
result_score vulnerability (cell.Confirmed outcome) = Some (ns_score_of outcome vulnerability)
result_score vulnerability (cell.Ruled north_south east_west) = None

-- the scores of the results that were played
abbrev pub scores_of : Vulnerability → List TableResult → List ℤ
scores_of vulnerability results = filter_map (λ (found : TableResult). result_score vulnerability found.result) results

-- a result with its score and its units among the scores, or with its percentages
abbrev pub row_result : Vulnerability → List ℤ → CellResult → RowResult
row_result vulnerability scores (cell.Confirmed outcome) =
    let score = ns_score_of outcome vulnerability in
    row.Played outcome score (units_of_score scores score)
row_result vulnerability scores (cell.Ruled north_south east_west) = row.Ruled north_south east_west

-- the row of a result: its table, its pairs, and how it ended
abbrev pub traveller_row : Section → Vulnerability → List ℤ → TableResult → TravellerRow
traveller_row section vulnerability scores found = record {
  table = found.cell.table;
  north_south = north_south_at section found.cell;
  east_west = east_west_at section found.cell;
  result = row_result vulnerability scores found.result;
}

-- the rows of a traveller: a row for each result, in their order
unfoldable pub traveller_rows : Section → Vulnerability → List TableResult → List TravellerRow
traveller_rows section vulnerability results =
    map (traveller_row section vulnerability (scores_of vulnerability results)) results
