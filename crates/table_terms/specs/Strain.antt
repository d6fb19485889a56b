-- The strains of a contract.
use Rattle.std.specs.Prelude.{ℕ, Option, Some, None}
use Rattle.table_terms.specs.declared.suit.Suit.{Suit}
use Rattle.table_terms.specs.declared.suit.Suit.TheVariants as suit
use Rattle.table_terms.specs.declared.strain.Strain.{Strain}
use Rattle.table_terms.specs.declared.strain.Strain.TheVariants.{Spades, Hearts, Diamonds, Clubs, NoTrump}

-- the trump suit, or none
abbrev pub trump_of : Strain → Option Suit
trump_of Spades = Some suit.Spades
trump_of Hearts = Some suit.Hearts
trump_of Diamonds = Some suit.Diamonds
trump_of Clubs = Some suit.Clubs
trump_of NoTrump = None

-- `S`, `H`, `D`, `C`, `N`
abbrev pub strain_letter : Strain → ℕ
strain_letter Spades = 83
strain_letter Hearts = 72
strain_letter Diamonds = 68
strain_letter Clubs = 67
strain_letter NoTrump = 78
