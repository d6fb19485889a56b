-- The suits of the pack (Law 1).
use Rattle.std.specs.Prelude.{ℕ, List, [], ◌∷◌}
use Rattle.table_terms.specs.declared.suit.Suit.{Suit}
use Rattle.table_terms.specs.declared.suit.Suit.TheVariants.{Spades, Hearts, Diamonds, Clubs}

-- the suits, in the order in which a hand is written
abbrev pub suits : List Suit
suits = Spades ∷ Hearts ∷ Diamonds ∷ Clubs ∷ []

-- a suit's place among them, counted from 0
abbrev pub suit_number : Suit → ℕ
suit_number Spades = 0
suit_number Hearts = 1
suit_number Diamonds = 2
suit_number Clubs = 3

-- `S`, `H`, `D`, `C`
abbrev pub suit_letter : Suit → ℕ
suit_letter Spades = 83
suit_letter Hearts = 72
suit_letter Diamonds = 68
suit_letter Clubs = 67
