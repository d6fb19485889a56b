-- The patterns of the cards that are left of a deal, by suit.
use Rattle.std.specs.Prelude.{◌≡◌, ◌&&◌, true}
use Rattle.cards.specs.Cards.{Cards}
use Rattle.cards.specs.Hands.{Hands, hand_of}
use Rattle.cards.specs.declared.card.Card.{Card}
use Rattle.table_terms.specs.declared.place.Place.{Place}
use Rattle.std.specs.FinSet as set
use Rattle.position_patterns.specs.declared.deal_patterns.Remainder.{Remainder}
use Rattle.cards.specs.Play.{IsApart, is_of}
use Rattle.position_patterns.specs.Tops.{IsPatternOf}
use Rattle.double_dummy_laws.specs.Pattern.{holding}

-- the cards of the four hands
abbrev pub all_held : Hands → Cards
all_held hands = set.union (set.union hands.north hands.east) (set.union hands.south hands.west)

-- each player holds only cards that the player was dealt
abbrev pub IsPartOf : Hands → Hands → Type 0
IsPartOf hands whole = (place : Place) (card : Card) → set.contains (hand_of hands place) card ≡ true →
    set.contains (hand_of whole place) card ≡ true

-- each player's cards that are among these
abbrev pub IsAmong : Hands → Cards → Hands → Type 0
IsAmong hands cards whole = (place : Place) (card : Card) →
    set.contains (hand_of hands place) card ≡ (set.contains (hand_of whole place) card && set.contains cards card)

-- hands that are left of a deal
pub record IsLeftOf (whole hands : Hands) : Type 0 where
  pub apart : IsApart whole
  pub part : IsPartOf hands whole

-- the pattern of the suit, wherever these cards of the deal are left of it
abbrev pub IsTrueRemainder : Hands → Remainder → Type 0
IsTrueRemainder whole left = (hands : Hands) → IsPartOf hands whole →
    set.retain (all_held hands) (is_of left.suit) ≡ left.cards → IsPatternOf left.pattern (holding hands left.suit)
