-- The play of the cards (Laws 1, 41, 44): positions, legal cards, and what a card does.
use Rattle.std.specs.Prelude.{
  ◌≡◌,
  ◌≢◌,
  ℕ,
  ◌+◌,
  Bool,
  true,
  false,
  ◌&&◌,
  nat_eq,
  nat_le,
  if◌then◌else◌,
  List,
  [],
  ◌∷◌,
  Option,
  Some,
  None,
  refl,
}
use Rattle.std.specs.Coded.{Coded, code_by, coded×, coded_list}
use Rattle.std.specs.FinSet as set
use Rattle.cards.specs.contracts.card.Card as the_card
use Rattle.table_terms.specs.contracts.place.Place as the_place
use Rattle.table_terms.specs.contracts.strain.Strain as the_strain
use Rattle.cards.specs.declared.card.Card.{Card}
use Rattle.table_terms.specs.declared.suit.Suit.{Suit}
use Rattle.table_terms.specs.declared.strain.Strain.{Strain}
use Rattle.table_terms.specs.declared.place.Place.{Place}
use Rattle.table_terms.specs.declared.side.Side.{Side}
use Rattle.table_terms.specs.declared.side.Side.TheVariants.{NorthSouth, EastWest}
use Rattle.table_terms.specs.Suit.{suit_number}
use Rattle.cards.specs.Rank.{height}
use Rattle.table_terms.specs.Place.{left_of, side_of, place_number}
use Rattle.table_terms.specs.Strain.{trump_of}
use Rattle.cards.specs.Cards.{Cards}
use Rattle.cards.specs.Hands.{Hands, hands_code, hand_of}

-- the four hands, the strain, who led to the trick, and the cards on the table in the order in which they were played
pub record Position : Type 0 where
  pub hands : Hands
  pub strain : Strain
  pub leader : Place
  pub table : List Card

-- a position is stored as a tuple of its fields
abbrev pub position_code : Coded Position
position_code =
    let cards : Coded (List Card) = coded_list the_card.the_row.coded in
    let the_others : Coded (Strain × (Place × List Card)) =
    coded× the_strain.the_row.coded (coded× the_place.the_row.coded cards) in
    code_by (Hands × (Strain × (Place × List Card))) (coded× hands_code the_others)
    (λ p. (p.hands, (p.strain, (p.leader, p.table))))
    (λ p. record { hands = p.0; strain = p.1.0; leader = p.1.1.0; table = p.1.1.1 })
    (λ _. refl)

-- the play of a deal begins with its hands, nothing on the table, and the lead at declarer's left (Law 41A)
abbrev pub start : Hands → Strain → Place → Position
start hands strain declarer = record { hands = hands; strain = strain; leader = left_of declarer; table = [] }

-- whose turn it is: as many places after the leader as cards are on the table (Law 44B)
abbrev pub turn : Place → List Card → Place
turn leader [] = leader
turn leader (_ ∷ table) = turn (left_of leader) table

-- whose turn it is in a position
abbrev pub to_play : Position → Place
to_play p = turn p.leader p.table

-- whether a card is of a suit
abbrev pub is_of : Suit → Card → Bool
is_of suit card = nat_eq (suit_number suit) (suit_number card.suit)

-- the cards that a hand holds of the suit led (Law 44C), or the whole hand where it holds none of them (Law 44D)
abbrev pub following : Cards → Cards → Cards
following hand held = if nat_eq (set.len held) 0 then hand else held

-- a leader may play any card (Law 44A)
abbrev pub legal_of : Cards → List Card → Cards
legal_of hand [] = hand
legal_of hand (led ∷ _) = following hand (set.retain hand (is_of led.suit))

-- the cards that may be played
abbrev pub legal : Position → Cards
legal p = legal_of (hand_of p.hands (to_play p)) p.table

-- whether a card is a trump
abbrev pub is_trump : Option Suit → Card → Bool
is_trump None card = false
is_trump (Some suit) card = is_of suit card

-- how strong a card is in a trick, by whether it is a trump, whether it is of the suit led, and its height:
-- trumps above the suit led (Law 44E), and each suit by rank (Laws 1 and 44F); a discard never wins
abbrev pub strength_by : Bool → Bool → ℕ → ℕ
strength_by true _ high = 14 + high
strength_by false true high = 1 + high
strength_by false false high = 0

-- how strong a card is in a trick with this trump to which this suit was led
abbrev pub strength : Option Suit → Suit → Card → ℕ
strength trump led card = strength_by (is_trump trump card) (is_of led card) (height card.rank)

-- how strong a card is in a trick to which another was led
abbrev pub strength_in : Strain → Card → Card → ℕ
strength_in strain led card = strength (trump_of strain) led.suit card

-- who played the strongest of four cards
unfoldable pub strongest : Place → ℕ → ℕ → ℕ → ℕ → Place
strongest leader a b c d =
    if nat_le b a && nat_le c a && nat_le d a then leader
    else (if nat_le c b && nat_le d b then left_of leader
    else (if nat_le d c then left_of (left_of leader) else left_of (left_of (left_of leader))))

-- who wins a trick: its strongest card's player (Law 44E, 44F)
abbrev pub winner : Strain → Place → Card → Card → Card → Card → Place
winner strain leader a b c d =
    strongest leader (strength_in strain a a) (strength_in strain a b) (strength_in strain a c) (strength_in strain a d)

-- the hands without a card
abbrev pub without : Hands → Card → Hands
without hands card = record {
  north = set.remove hands.north card;
  east = set.remove hands.east card;
  south = set.remove hands.south card;
  west = set.remove hands.west card;
}

-- a card goes to the table, and a fourth one completes the trick and empties it
abbrev pub table_after : List Card → Card → List Card
table_after [] d = d ∷ []
table_after (a ∷ []) d = a ∷ d ∷ []
table_after (a ∷ b ∷ []) d = a ∷ b ∷ d ∷ []
table_after (a ∷ b ∷ c ∷ _) d = []

-- who has won a trick leads to the next (Law 44G)
abbrev pub leader_after : Strain → Place → List Card → Card → Place
leader_after strain leader [] d = leader
leader_after strain leader (a ∷ []) d = leader
leader_after strain leader (a ∷ b ∷ []) d = leader
leader_after strain leader (a ∷ b ∷ c ∷ _) d = winner strain leader a b c d

-- the position after a card
abbrev pub after : Position → Card → Position
after p card = record {
  hands = without p.hands card;
  strain = p.strain;
  leader = leader_after p.strain p.leader p.table card;
  table = table_after p.table card;
}

-- a trick, counted for North and South
abbrev pub trick_for : Side → ℕ
trick_for NorthSouth = 1
trick_for EastWest = 0

-- 1 where the card is the fourth and North and South win the trick, else 0
abbrev pub point_of : Strain → Place → List Card → Card → ℕ
point_of strain leader [] d = 0
point_of strain leader (a ∷ []) d = 0
point_of strain leader (a ∷ b ∷ []) d = 0
point_of strain leader (a ∷ b ∷ c ∷ _) d = trick_for (side_of (winner strain leader a b c d))

-- the same in a position
abbrev pub point : Position → Card → ℕ
point p card = point_of p.strain p.leader p.table card

-- how many cards the players still hold
abbrev pub cards_left : Position → ℕ
cards_left p = set.len p.hands.north + set.len p.hands.east + set.len p.hands.south + set.len p.hands.west

-- no card is in two hands
abbrev pub IsApart : Hands → Type 0
IsApart hands = (place other : Place) (card : Card) →
    set.contains (hand_of hands place) card ≡ true → set.contains (hand_of hands other) card ≡ true → place ≡ other

-- a card is in no hand
abbrev pub IsOut : Hands → Card → Type 0
IsOut hands card = (place : Place) → set.contains (hand_of hands place) card ≡ false

-- a trick under way has at most three cards, which are in no hand, and no two of which are the same
abbrev pub IsUnderWay : Hands → List Card → Type 0
IsUnderWay hands [] = Unit {0}
IsUnderWay hands (a ∷ []) = IsOut hands a
IsUnderWay hands (a ∷ b ∷ []) = IsOut hands a × (IsOut hands b × (a ≢ b))
IsUnderWay hands (a ∷ b ∷ c ∷ []) = (IsOut hands a × (IsOut hands b × IsOut hands c)) × ((a ≢ b) × ((a ≢ c) × (b ≢ c)))
IsUnderWay hands (a ∷ b ∷ c ∷ d ∷ _) = ⊥

-- 1 for the player himself, 0 for another
abbrev pub one_for : Place → Place → ℕ
one_for player place = if nat_eq (place_number player) (place_number place) then 1 else 0

-- how many of the cards on the table a player has played
abbrev pub played_by : Place → List Card → Place → ℕ
played_by leader [] place = 0
played_by leader (_ ∷ table) place = one_for leader place + played_by (left_of leader) table place

-- how many cards a player has, with the one that he has on the table
abbrev pub count_of : Position → Place → ℕ
count_of p place = set.len (hand_of p.hands place) + played_by p.leader p.table place

-- no card is in two places, at most three are on the table, and the hands are equal in size once each card on the table
-- is counted to its player
pub record IsPosition (p : Position) : Type 0 where
  pub apart : IsApart p.hands
  pub trick : IsUnderWay p.hands p.table
  pub equal : (place other : Place) → count_of p place ≡ count_of p other
