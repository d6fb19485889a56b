-- A position's pattern in numbers, and what is remembered of one: who holds the top cards, and how many each player
-- has.
use Rattle.std.specs.Prelude.{◌≡◌, ℕ, ◌+◌, ◌%◌, ◌^◌, ◌≤◌, true, length, List, [], ◌∷◌, ◌*◌}
use Rattle.cards.specs.Cards.{Cards}
use Rattle.cards.specs.declared.card.Card.{Card}
use Rattle.table_terms.specs.declared.suit.Suit.{Suit}
use Rattle.table_terms.specs.declared.suit.Suit.TheVariants.{Spades, Hearts, Diamonds, Clubs}
use Rattle.table_terms.specs.declared.place.Place.{Place}
use Rattle.table_terms.specs.declared.place.Place.TheVariants.{North, East, South, West}
use Rattle.std.specs.FinSet as set
use Rattle.position_patterns.specs.declared.pattern.SuitTops.{SuitTops}
use Rattle.position_patterns.specs.declared.pattern.SuitPattern.{SuitPattern}
use Rattle.position_patterns.specs.declared.pattern.Pattern.{Pattern}
use Rattle.position_patterns.specs.declared.pattern.Remembered.{Remembered}
use Rattle.table_terms.specs.Place.{place_number}
use Rattle.cards.specs.Play.{Position, cards_left}
use Rattle.double_dummy_laws.specs.Found.{IsFound}
use Rattle.double_dummy_laws.specs.Pattern.{Held, IsTop, holding}

-- the holders as one number, the top card's in the lowest of its digits to base 4
abbrev pub digits : List Held → ℕ
digits [] = 0
digits (x ∷ xs) = place_number x.place + 4 * digits xs

-- what a card counts in the number below, by who holds it
abbrev pub place_weight : Place → ℕ
place_weight North = 1
place_weight East = 16
place_weight South = 256
place_weight West = 4096

-- how many cards each player has, as one number to base 16: a digit for each player
abbrev pub lengths_number : List Held → ℕ
lengths_number [] = 0
lengths_number (x ∷ xs) = place_weight x.place + lengths_number xs

-- the holders of a suit's cards, and how many each player has
pub record IsPatternOf (pattern : SuitPattern) (held : List Held) : Type 0 where
  pub owners : pattern.owners ≡ digits held
  pub lengths : pattern.lengths ≡ lengths_number held

-- a suit's pattern among the four
abbrev pub pattern_of : Pattern → Suit → SuitPattern
pattern_of pattern Spades = pattern.spades
pattern_of pattern Hearts = pattern.hearts
pattern_of pattern Diamonds = pattern.diamonds
pattern_of pattern Clubs = pattern.clubs

-- the cards held have the holders of the tops, and these lengths
pub record HasTops (tops : SuitTops) (held : List Held) : Type 0 where
  pub owners : digits held % 4 ^ tops.count ≡ tops.owners
  pub lengths : lengths_number held ≡ tops.lengths

-- so many cards from the top, with all the known ones among those held
pub record IsReach (known : Cards) (held : List Held) (count : ℕ) : Type 0 where
  pub within : count ≤ length held
  pub reach : (card : Card) → set.contains known card ≡ true → IsTop (length held) held card → IsTop count held card

-- a suit's tops among the four of an entry
abbrev pub tops_of : Remembered → Suit → SuitTops
tops_of entry Spades = entry.spades
tops_of entry Hearts = entry.hearts
tops_of entry Diamonds = entry.diamonds
tops_of entry Clubs = entry.clubs

-- the position is at the beginning of a trick, and of the entry's pattern
pub record Matches (entry : Remembered) (position : Position) : Type 0 where
  pub strain : position.strain ≡ entry.strain
  pub leader : position.leader ≡ entry.leader
  pub table : position.table ≡ []
  pub left : cards_left position ≡ 4 * entry.tricks
  pub suits : (suit : Suit) → HasTops (tops_of entry suit) (holding position.hands suit)

-- the set has the top cards of each suit
abbrev pub HasTopCards : Remembered → Position → Cards → Type 0
HasTopCards entry position known =
    (card : Card) → IsTop (tops_of entry card.suit).count (holding position.hands card.suit) card →
    set.contains known card ≡ true

-- what an entry says holds of every position of its pattern
abbrev pub IsTruePattern : Remembered → Type 0
IsTruePattern entry =
    (position : Position) (known : Cards) → Matches entry position → HasTopCards entry position known →
    IsFound position entry.target known entry.holds
