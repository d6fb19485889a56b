-- Positions that are alike but for their cards' names.
use Rattle.std.specs.Prelude.{◌≡◌, ◌≢◌, ◌<◌, Bool, true, ◌||◌, List, [], ◌∷◌, map}
use Rattle.std.specs.FinSet as set
use Rattle.cards.specs.declared.card.Card.{Card}
use Rattle.table_terms.specs.declared.place.Place.{Place}
use Rattle.cards.specs.Rank.{height}
use Rattle.table_terms.specs.Place.{left_of}
use Rattle.cards.specs.Cards.{Cards}
use Rattle.cards.specs.Hands.{Hands, hand_of}
use Rattle.cards.specs.Play.{Position}

-- who owns each card, which cards are in play, and those of them whose rank is known
pub record Ownership : Type 0 where
  pub owner : Card → Place
  pub is_live : Card → Bool
  pub is_known : Card → Bool

-- another name for each live card: suits stay, no two cards get one name, and of two players' cards of a suit, one of
-- them known, the higher stays the higher
pub record IsRenaming (ownership : Ownership) (name : Card → Card) : Type 0 where
  pub suit : (card : Card) → ownership.is_live card ≡ true → (name card).suit ≡ card.suit
  pub apart : (a b : Card) → ownership.is_live a ≡ true → ownership.is_live b ≡ true → name a ≡ name b → a ≡ b
  pub order : (a b : Card) → ownership.is_live a ≡ true → ownership.is_live b ≡ true →
      (ownership.is_known a || ownership.is_known b) ≡ true →
      ownership.owner a ≢ ownership.owner b → a.suit ≡ b.suit → height a.rank < height b.rank →
      height (name a).rank < height (name b).rank

-- a live card of this player
abbrev pub IsLiveCardOf : Ownership → Place → Card → Type 0
IsLiveCardOf ownership place card = (ownership.is_live card ≡ true) × (ownership.owner card ≡ place)

-- the cards of a trick that is not yet complete are live, and those of the players in turn
abbrev pub ArePlayed : Ownership → Place → List Card → Type 0
ArePlayed ownership leader [] = Unit {0}
ArePlayed ownership leader (a ∷ []) = IsLiveCardOf ownership leader a
ArePlayed ownership leader (a ∷ b ∷ []) = IsLiveCardOf ownership leader a × IsLiveCardOf ownership (left_of leader) b
ArePlayed ownership leader (a ∷ b ∷ c ∷ []) =
    IsLiveCardOf ownership leader a × (IsLiveCardOf ownership (left_of leader) b × IsLiveCardOf ownership
    (left_of (left_of leader)) c)
ArePlayed ownership leader (a ∷ b ∷ c ∷ d ∷ _) = ⊥

-- the second hands are the first ones with the cards' other names, and the first ones' cards are live and their
-- holders'
pub record HasNames (ownership : Ownership) (name : Card → Card) (hands others : Hands) : Type 0 where
  pub into : (place : Place) (card : Card) → set.contains (hand_of hands place) card ≡ true →
      set.contains (hand_of others place) (name card) ≡ true
  pub onto : (place : Place) (card : Card) → set.contains (hand_of others place) card ≡ true →
      (old : Card) × (set.contains (hand_of hands place) old ≡ true) × (name old ≡ card)
  pub live : (place : Place) (card : Card) → set.contains (hand_of hands place) card ≡ true →
      (ownership.is_live card ≡ true) × (ownership.owner card ≡ place)

-- the position with the cards' other names
abbrev pub renamed : (Card → Card) → Position → Hands → Position
renamed name position hands = record {
  hands = hands;
  strain = position.strain;
  leader = position.leader;
  table = map name position.table;
}

-- just these cards are known
abbrev pub knowing : Ownership → Cards → Ownership
knowing ownership known = record { owner = ownership.owner; is_live = ownership.is_live; is_known = set.contains known }

-- every card is known
abbrev pub AllKnown : Ownership → Type 0
AllKnown ownership = (card : Card) → ownership.is_known card ≡ true
