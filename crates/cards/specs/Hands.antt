-- The four hands of a deal (Laws 1 and 6).
use Rattle.std.specs.Prelude.{◌≡◌, ◌≢◌, refl}
use Rattle.std.specs.Coded.{Coded, code_by, coded×}
use Rattle.cards.specs.contracts.card.Card as the_card
use Rattle.std.specs.FinSet as set
use Rattle.table_terms.specs.declared.place.Place.{Place}
use Rattle.table_terms.specs.declared.place.Place.TheVariants.{North, East, South, West}
use Rattle.cards.specs.Cards.{Cards, AreDisjoint}

-- what the four players hold
pub record Hands : Type 0 where
  pub north : Cards
  pub east : Cards
  pub south : Cards
  pub west : Cards

-- the hands are stored as a tuple of sets, and a set as the list of its cards
abbrev pub hands_code : Coded Hands
hands_code =
    let cards : Coded Cards = set.code the_card.the_row.coded in
    code_by (Cards × (Cards × (Cards × Cards))) (coded× cards (coded× cards (coded× cards cards)))
    (λ h. (h.north, (h.east, (h.south, h.west))))
    (λ p. record { north = p.0; east = p.1.0; south = p.1.1.0; west = p.1.1.1 })
    (λ _. refl)

-- what a player holds
abbrev pub hand_of : Hands → Place → Cards
hand_of hands North = hands.north
hand_of hands East = hands.east
hand_of hands South = hands.south
hand_of hands West = hands.west

-- a deal gives each player thirteen cards, and no card to two players
pub record IsDeal (hands : Hands) : Type 0 where
  pub thirteen : (place : Place) → set.len (hand_of hands place) ≡ 13
  pub apart : (place other : Place) → place ≢ other → AreDisjoint (hand_of hands place) (hand_of hands other)
