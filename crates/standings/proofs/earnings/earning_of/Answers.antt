use Rattle.std.proofs.Common.{◌*◌}
use Rattle.standings.proofs.PairLemmas.{north_south_of_row, east_west_of_row}
use Rattle.standings.proofs.earnings.earning_of.Goals as goal

pub returns : goal.returns
returns c =
    let section = c.args.movement.now in
    let cell = c.args.found.now.cell in
    let there = c.north_south_at.ensures in
    let against = c.east_west_at.ensures in
    λ i. record {
      north_south = north_south_of_row section cell c.north_south_at.result there.section there.row i;
      east_west = east_west_of_row section cell c.east_west_at.result against.section against.row i;
      for_north_south = c.earned_north_south-for_north_south.ensures i;
      for_east_west = c.earned_east_west.ensures c.args.vulnerability c.earned_north_south-for_north_south.ensures i;
      top = 100 * c.top_of.ensures.top i;
    }
