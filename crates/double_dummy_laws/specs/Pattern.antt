-- The pattern of a suit: who holds its cards, from the top down.
use Rattle.std.specs.Prelude.{
  ◌≡◌,
  ℕ,
  zero,
  suc,
  ◌+◌,
  Bool,
  true,
  false,
  if◌then◌else◌,
  Option,
  Some,
  None,
  List,
  [],
  ◌∷◌,
  ◌⊎◌,
}
use Rattle.std.specs.FinSet as set
use Rattle.cards.specs.declared.card.Card.{Card}
use Rattle.table_terms.specs.declared.suit.Suit.{Suit}
use Rattle.cards.specs.declared.rank.Rank.{Rank}
use Rattle.table_terms.specs.declared.place.Place.{Place}
use Rattle.table_terms.specs.declared.place.Place.TheVariants.{North, East, South, West}
use Rattle.cards.specs.Rank.{ranks_down}
use Rattle.cards.specs.Hands.{Hands}

-- a card and who holds it
pub record Held : Type 0 where
  pub card : Card
  pub place : Place

-- who holds a card
unfoldable pub holder_of : Hands → Card → Option Place
holder_of hands card =
    if set.contains hands.north card then Some North
    else (if set.contains hands.east card then Some East
    else (if set.contains hands.south card then Some South
    else (if set.contains hands.west card then Some West else None)))

-- the card and who holds it, if anybody does, before others
abbrev pub held_before : Card → Option Place → List Held → List Held
held_before card None rest = rest
held_before card (Some place) rest = record { card = card; place = place } ∷ rest

-- the cards of a suit that are held, of these ranks
abbrev pub held_of : Hands → Suit → List Rank → List Held
held_of hands suit [] = []
held_of hands suit (rank ∷ ranks) =
    let card : Card = record { suit = suit; rank = rank } in
    held_before card (holder_of hands card) (held_of hands suit ranks)

-- the cards of a suit that are held, from the top down
abbrev pub holding : Hands → Suit → List Held
holding hands suit = held_of hands suit ranks_down

-- the same players hold the first so many cards
abbrev pub HaveSameTops : ℕ → List Held → List Held → Type 0
HaveSameTops zero xs ys = Unit {0}
HaveSameTops (suc k) [] [] = Unit {0}
HaveSameTops (suc k) [] (y ∷ ys) = ⊥
HaveSameTops (suc k) (x ∷ xs) [] = ⊥
HaveSameTops (suc k) (x ∷ xs) (y ∷ ys) = (x.place ≡ y.place) × HaveSameTops k xs ys

-- whether two places are one
abbrev pub same_place : Place → Place → Bool
same_place North North = true
same_place East East = true
same_place South South = true
same_place West West = true
same_place _ _ = false

-- one, if so
abbrev pub one_if : Bool → ℕ
one_if true = 1
one_if false = 0

-- how many of the cards a player holds
abbrev pub how_many : Place → List Held → ℕ
how_many place [] = 0
how_many place (x ∷ xs) = one_if (same_place place x.place) + how_many place xs

-- each player has as many cards of each suit in both, and the same players hold so many top cards of each suit
pub record IsOfPattern (tops : Suit → ℕ) (hands others : Hands) : Type 0 where
  pub same_tops : (suit : Suit) → HaveSameTops (tops suit) (holding hands suit) (holding others suit)
  pub same_lengths : (suit : Suit) (place : Place) →
      how_many place (holding hands suit) ≡ how_many place (holding others suit)

-- a card among the first so many
abbrev pub IsTop : ℕ → List Held → Card → Type 0
IsTop zero xs card = ⊥
IsTop (suc k) [] card = ⊥
IsTop (suc k) (x ∷ xs) card = (x.card ≡ card) ⊎ IsTop k xs card
