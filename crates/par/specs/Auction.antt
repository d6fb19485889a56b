-- own: par. All four players see all the cards. In turn from the dealer each bids or passes, until three pass after a bid or
-- all four pass (Law 22); whoever bids last declares, and a contract that will be set is doubled. Each player goes on only to
-- gain, for that player's side.
use Rattle.std.specs.Prelude.{ℕ, zero, suc, ◌+◌, ◌≤◌, pos, int_lt, Bool, nat_le, Option, Some, None, if◌then◌else◌}
use Rattle.table_terms.specs.declared.place.Place.{Place}
use Rattle.table_terms.specs.declared.side.Side.{Side}
use Rattle.table_terms.specs.declared.side.Side.TheVariants as side
use Rattle.table_terms.specs.declared.strain.Strain.{Strain}
use Rattle.table_terms.specs.declared.vulnerability.Vulnerability.{Vulnerability}
use Rattle.table_terms.specs.Place.{left_of, side_of}
use Rattle.query_filter.specs.declared.trick_table.TrickTable.{TrickTable}
use Rattle.query_filter.specs.TrickTable.{tricks_of}
use Rattle.scoring.specs.declared.contract.Contract.{Contract}
use Rattle.scoring.specs.declared.doubling.Doubling.{Doubling}
use Rattle.scoring.specs.declared.doubling.Doubling.TheVariants.{Undoubled, Doubled}
use Rattle.scoring.specs.declared.outcome.Outcome.{Outcome}
use Rattle.scoring.specs.declared.outcome.Outcome.TheVariants.{PassedOut, Played}
use Rattle.scoring.specs.Law77.{ns_score_of}
use Rattle.par.specs.declared.par.Par.{Par}
use Rattle.par.specs.Bid.{all_bids, level_of_bid, strain_of}

-- the twenty numbers are numbers of tricks
abbrev pub HasTricks : TrickTable → Type 0
HasTricks table = (strain : Strain) (declarer : Place) → tricks_of table strain declarer ≤ 13

-- the opponents double a contract where it will be set
abbrev pub doubling_at : ℕ → ℕ → Doubling
doubling_at level tricks = if nat_le (6 + level) tricks then Undoubled else Doubled

-- the contract that a player's bid comes to, if no one bids on
abbrev pub contract_of : TrickTable → ℕ → Place → Contract
contract_of table higher player = record {
  level = level_of_bid higher;
  strain = strain_of higher;
  declarer = player;
  doubling = doubling_at (level_of_bid higher) (tricks_of table (strain_of higher) player);
}

-- how a board ends, with what it scores
abbrev pub scored : Vulnerability → Outcome → Par
scored vulnerability outcome = record { score = ns_score_of outcome vulnerability; outcome = outcome }

-- what a player's bid comes to, if no one bids on
unfoldable pub bid_out : TrickTable → Vulnerability → ℕ → Place → Par
bid_out table vulnerability higher player =
    scored vulnerability (Played (contract_of table higher player) (tricks_of table (strain_of higher) player))

-- what a board comes to where all four players pass
abbrev pub passed_out : Par
passed_out = record { score = pos 0; outcome = PassedOut }

-- the first scores more than the second for a side
unfoldable pub is_more_for : Side → Par → Par → Bool
is_more_for side.NorthSouth one other = int_lt other.score one.score
is_more_for side.EastWest one other = int_lt one.score other.score

-- a player's choice between what a pass comes to and what the best bid does, if one is left: the bid only to gain by it
unfoldable pub choice : Place → Par → Option Par → Par
choice player pass None = pass
choice player pass (Some bid) = if is_more_for (side_of player) bid pass then bid else pass

-- the other three players in turn choose, where all three may pass
abbrev pub others_choose : (Place → Option Par) → Place → Par → Par
others_choose best player pass =
    let first = left_of player in
    let second = left_of first in
    let third = left_of second in
    choice first (choice second (choice third pass (best third)) (best second)) (best first)

-- the better of what a player's best higher bid comes to, if one is left, and what the next lower bid does: the lower bid
-- only to gain by it
abbrev pub better_bid : Place → Option Par → Par → Par
better_bid player None lower = lower
better_bid player (Some higher) lower = choice player higher (Some lower)

-- what a player's best bid comes to, where so many bids are left, the highest ones: each is answered by bids above it
unfoldable pub best_bid : TrickTable → Vulnerability → ℕ → Place → Option Par
best_bid table vulnerability zero player = None
best_bid table vulnerability (suc higher) player =
    let best = best_bid table vulnerability higher in
    let bid = others_choose best player (bid_out table vulnerability higher player) in
    Some (better_bid player (best player) bid)

-- par: what the auction comes to from the dealer on, who chooses before the other three
abbrev pub par_of : TrickTable → Vulnerability → Place → Par
par_of table vulnerability dealer =
    let best = best_bid table vulnerability all_bids in
    choice dealer (others_choose best dealer passed_out) (best dealer)
