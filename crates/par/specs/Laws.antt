-- What the laws of this crate speak of.
use Rattle.std.specs.Prelude.{◌≡◌, ◌≢◌, ℕ, ◌<◌, false, ◌⊎◌}
use Rattle.table_terms.specs.declared.place.Place.{Place}
use Rattle.table_terms.specs.declared.strain.Strain.{Strain}
use Rattle.table_terms.specs.declared.strain.Strain.TheVariants.{Spades, Hearts, Diamonds, Clubs, NoTrump}
use Rattle.table_terms.specs.declared.vulnerability.Vulnerability.{Vulnerability}
use Rattle.table_terms.specs.Place.{side_of}
use Rattle.query_filter.specs.declared.trick_table.TrickTable.{TrickTable}
use Rattle.par.specs.declared.par.Par.{Par}
use Rattle.par.specs.Auction.{best_bid, bid_out, is_more_for, others_choose}
use Rattle.par.specs.Bid.{level_of_bid, strain_of}

-- how many strains outrank a strain (Law 18E)
abbrev pub strains_above : Strain → ℕ
strains_above NoTrump = 0
strains_above Spades = 1
strains_above Hearts = 2
strains_above Diamonds = 3
strains_above Clubs = 4

-- one bid outranks another: it is of a higher level, or of the same level in a higher strain (Law 18)
abbrev pub Outranks : ℕ → ℕ → Type 0
Outranks one other =
    (level_of_bid other < level_of_bid one)
    ⊎ ((level_of_bid other ≡ level_of_bid one) × (strains_above (strain_of one) < strains_above (strain_of other)))

-- the bid of a level in a strain, told by how many outrank it
pub record IsBid (level : ℕ) (strain : Strain) (higher : ℕ) : Type 0 where
  pub one_of_all : higher < 35
  pub of_level : level_of_bid higher ≡ level
  pub in_strain : strain_of higher ≡ strain

-- what a player's bid comes to, where those who follow bid on or pass, each for the best
abbrev pub bid_answered : TrickTable → Vulnerability → ℕ → Place → Par
bid_answered table vulnerability higher player =
    others_choose (best_bid table vulnerability higher) player (bid_out table vulnerability higher player)

-- none of so many bids, the highest ones, brings the player's side more than an end does
abbrev pub GainsNothing : TrickTable → Vulnerability → ℕ → Place → Par → Type 0
GainsNothing table vulnerability left player end =
    (higher : ℕ) → higher < left →
    is_more_for (side_of player) (bid_answered table vulnerability higher player) end ≡ false

-- an end is a bid that stands, one of so many: none of the other three players gains by a bid that outranks it
pub record StandsAsPar (table : TrickTable) (vulnerability : Vulnerability) (left : ℕ) (end : Par) : Type 0 where
  pub higher : ℕ
  pub declarer : Place
  pub one_of_them : higher < left
  pub is : end ≡ bid_out table vulnerability higher declarer
  pub others : (player : Place) → player ≢ declarer → GainsNothing table vulnerability higher player end
