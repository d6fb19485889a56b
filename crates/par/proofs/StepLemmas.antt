-- The body's steps are the definition's.
use Rattle.std.proofs.Common.{◌≡◌, ℕ, ◌+◌, refl, add-one}
use Rattle.table_terms.specs.declared.place.Place.{Place}
use Rattle.table_terms.specs.declared.place.Place.TheVariants.{North, East, South, West}
use Rattle.table_terms.specs.declared.vulnerability.Vulnerability.{Vulnerability}
use Rattle.query_filter.specs.declared.trick_table.TrickTable.{TrickTable}
use Rattle.par.specs.Auction.{best_bid, choice, others_choose, par_of, passed_out}
use Rattle.par.specs.Bid.{all_bids}
use Rattle.par.specs.BestBids.{best_bids, bid_of, no_bids, with_lower}

-- no bid is left before the first
pub no_bids_left : (table : TrickTable) (vulnerability : Vulnerability) → no_bids ≡ best_bids table vulnerability 0
unfolding best_bids best_bid
no_bids_left table vulnerability = refl

-- each step leaves one bid more
pub one_bid_more : (table : TrickTable) (vulnerability : Vulnerability) (higher : ℕ) →
    with_lower table vulnerability higher (best_bids table vulnerability higher) ≡
    best_bids table vulnerability (higher + 1)
unfolding with_lower best_bids best_bid
one_bid_more table vulnerability higher = rw add-one refl

-- from the dealer on, the four values give par
pub from_dealer : (table : TrickTable) (vulnerability : Vulnerability) (dealer : Place) →
    choice dealer (others_choose (bid_of (best_bids table vulnerability all_bids)) dealer passed_out)
    (bid_of (best_bids table vulnerability all_bids) dealer) ≡
    par_of table vulnerability dealer
unfolding best_bids
from_dealer table vulnerability North = refl
from_dealer table vulnerability East = refl
from_dealer table vulnerability South = refl
from_dealer table vulnerability West = refl
