-- The 35 bids of an auction in their order (Law 18): each is told by how many bids outrank it, from 0 for 7 no trump to 34
-- for 1 club.
use Rattle.std.specs.Prelude.{ℕ, zero, suc, ◌-◌, ◌/◌, ◌%◌}
use Rattle.table_terms.specs.declared.strain.Strain.{Strain}
use Rattle.table_terms.specs.declared.strain.Strain.TheVariants.{Spades, Hearts, Diamonds, Clubs, NoTrump}

-- how many bids there are: five strains at seven levels
abbrev pub all_bids : ℕ
all_bids = 35

-- the strains from the highest down (Law 18E)
abbrev pub strain_below : ℕ → Strain
strain_below zero = NoTrump
strain_below (suc zero) = Spades
strain_below (suc (suc zero)) = Hearts
strain_below (suc (suc (suc zero))) = Diamonds
strain_below (suc (suc (suc (suc _)))) = Clubs

-- the strain of the bid that so many outrank
abbrev pub strain_of : ℕ → Strain
strain_of higher = strain_below (higher % 5)

-- the level of the bid that so many outrank: 7 for the first five
abbrev pub level_of_bid : ℕ → ℕ
level_of_bid higher = 7 - higher / 5
