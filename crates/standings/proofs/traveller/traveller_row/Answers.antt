use Rattle.standings.proofs.PairLemmas.{north_south_of_row, east_west_of_row}
use Rattle.standings.proofs.traveller.traveller_row.Goals as goal

pub returns : goal.returns
returns c =
    let section = c.args.movement.now in
    let cell = c.args.found.now.cell in
    let there = c.north_south_at.ensures in
    let against = c.east_west_at.ensures in
    λ i. record {
      table = cell.table;
      north_south = north_south_of_row section cell c.north_south_at.result there.section there.row i;
      east_west = east_west_of_row section cell c.east_west_at.result against.section against.row i;
      result = c.row_result.ensures i;
    }
