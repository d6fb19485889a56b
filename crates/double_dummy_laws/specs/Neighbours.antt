-- Equal cards: a player's cards between which nobody else has a card. Cards that do the same as far as others go: none
-- of those is between them.
use Rattle.std.specs.Prelude.{◌≡◌, ◌<◌, ◌⊎◌, true, false, List, [], ◌∷◌}
use Rattle.std.specs.List.{list_any}
use Rattle.std.specs.Ordering.{eq_by_cmp}
use Rattle.std.specs.FinSet as set
use Rattle.cards.specs.declared.card.Card.{Card}
use Rattle.table_terms.specs.declared.place.Place.{Place}
use Rattle.cards.specs.Card.{card_cmp}
use Rattle.cards.specs.Cards.{Cards}
use Rattle.cards.specs.Hands.{hand_of}
use Rattle.cards.specs.Rank.{height}
use Rattle.cards.specs.Play.{Position, legal}

-- a card of the suit of two others, with a rank between theirs
pub record IsBetween (a b card : Card) : Type 0 where
  pub suit : card.suit ≡ a.suit
  pub ranks : ((height a.rank < height card.rank) × (height card.rank < height b.rank))
      ⊎ ((height b.rank < height card.rank) × (height card.rank < height a.rank))

-- the card is in a player's hand, or on the table
abbrev pub IsInPlay : Position → Card → Type 0
IsInPlay position card =
    ((place : Place) × (set.contains (hand_of position.hands place) card ≡ true))
    ⊎ (list_any (eq_by_cmp card_cmp card) position.table ≡ true)

-- two legal cards of one suit, with no card between them in any hand or on the table
pub record AreNeighbours (position : Position) (a b : Card) : Type 0 where
  pub first : set.contains (legal position) a ≡ true
  pub second : set.contains (legal position) b ≡ true
  pub suit : a.suit ≡ b.suit
  pub none : (card : Card) → IsInPlay position card → ¬ IsBetween a b card

-- a run of neighbours: each card and the next are neighbours
abbrev pub IsRun : Position → List Card → Type 0
IsRun position [] = Unit {0}
IsRun position (card ∷ []) = Unit {0}
IsRun position (a ∷ b ∷ rest) = AreNeighbours position a b × IsRun position (b ∷ rest)

-- two legal cards of one suit, neither of them among these cards, and none of these between them
pub record AreUnparted (position : Position) (these : Cards) (a b : Card) : Type 0 where
  pub first : set.contains (legal position) a ≡ true
  pub second : set.contains (legal position) b ≡ true
  pub suit : a.suit ≡ b.suit
  pub first_out : set.contains these a ≡ false
  pub second_out : set.contains these b ≡ false
  pub none : (card : Card) → set.contains these card ≡ true → ¬ IsBetween a b card
