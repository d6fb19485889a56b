-- For private clauses: what each player's best bid comes to, four values in one.
use Rattle.std.specs.Prelude.{ℕ, Option, Some, None}
use Rattle.table_terms.specs.declared.place.Place.{Place}
use Rattle.table_terms.specs.declared.place.Place.TheVariants.{North, East, South, West}
use Rattle.table_terms.specs.declared.vulnerability.Vulnerability.{Vulnerability}
use Rattle.query_filter.specs.declared.trick_table.TrickTable.{TrickTable}
use Rattle.par.specs.declared.best_bids.BestBids.{BestBids}
use Rattle.par.specs.declared.par.Par.{Par}
use Rattle.par.specs.Auction.{best_bid, better_bid, bid_out, others_choose}

-- no bid is left to any player
abbrev pub no_bids : BestBids
no_bids = record { north = None; east = None; south = None; west = None }

-- what a player's best bid comes to
abbrev pub bid_of : BestBids → Place → Option Par
bid_of best North = best.north
bid_of best East = best.east
bid_of best South = best.south
bid_of best West = best.west

-- the better of a player's best bid and the one bid that it outranks
abbrev pub or_lower : TrickTable → Vulnerability → ℕ → BestBids → Place → Par
or_lower table vulnerability higher best player =
    better_bid player (bid_of best player)
    (others_choose (bid_of best) player (bid_out table vulnerability higher player))

-- one more bid is left, which so many outrank
unfoldable pub with_lower : TrickTable → Vulnerability → ℕ → BestBids → BestBids
with_lower table vulnerability higher best = record {
  north = Some (or_lower table vulnerability higher best North);
  east = Some (or_lower table vulnerability higher best East);
  south = Some (or_lower table vulnerability higher best South);
  west = Some (or_lower table vulnerability higher best West);
}

-- the four values of the auction's definition, where so many bids are left
unfoldable pub best_bids : TrickTable → Vulnerability → ℕ → BestBids
best_bids table vulnerability left = record {
  north = best_bid table vulnerability left North;
  east = best_bid table vulnerability left East;
  south = best_bid table vulnerability left South;
  west = best_bid table vulnerability left West;
}
