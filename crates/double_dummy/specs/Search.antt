-- For private clauses: what a search keeps from card to card.
use Rattle.std.specs.Prelude.{◌≡◌, ◌≢◌, ◌-◌, ◌≤◌, ℕ, suc, ◌⊎◌, Bool, true, false, [], ◌∷◌}
use Rattle.cards.specs.Cards.{Cards}
use Rattle.cards.specs.declared.card.Card.{Card}
use Rattle.std.specs.FinSet as set
use Rattle.table_terms.specs.Strain.{trump_of}
use Rattle.table_terms.specs.declared.place.Place.{Place}
use Rattle.table_terms.specs.Place.{partner_of}
use Rattle.cards.specs.Hands.{hand_of}
use Rattle.cards.specs.Play.{IsPosition, Position, cards_left, is_of, is_trump, legal, legal_of, to_play}
use Rattle.double_dummy_laws.specs.Found.{CardClaims, IsOwned, IsTight}
use Rattle.double_dummy_laws.specs.Known.{IsLike}
use Rattle.double_dummy_laws.specs.Neighbours.{AreUnparted, IsInPlay}
use Rattle.double_dummy_laws.specs.Renaming.{Ownership, knowing}
use Rattle.double_dummy_laws.specs.SureTricks.{AreInReach, AreMastersKnown, AreRunners, led_by}

-- a set that has each card that is held or lies on the table
abbrev pub HasLive : Position → Cards → Type 0
HasLive position live = (card : Card) → IsInPlay position card → set.contains live card ≡ true

-- a set that has all live cards of the other players
abbrev pub HasOthers : Position → Cards → Type 0
HasOthers position others =
    (ownership : Ownership) (card : Card) → IsOwned ownership position → IsTight ownership position →
    ownership.is_live card ≡ true → ownership.owner card ≢ to_play position →
    set.contains others card ≡ true

-- legal cards that are like this one
abbrev pub IsRunOf : Position → Card → Cards → Type 0
IsRunOf position card run =
    (ownership : Ownership) (other : Card) → IsOwned ownership position → IsTight ownership position →
    set.contains run other ≡ true →
    (set.contains (legal position) other ≡ true) × ((card ≡ other) ⊎ IsLike ownership card other)

-- legal cards that none of the known cards parts from this one
abbrev pub AreSpokenFor : Position → Cards → Card → Cards → Type 0
AreSpokenFor position known card spoken =
    (other : Card) → set.contains spoken other ≡ true → AreUnparted position known card other

-- each legal card that is not among these was tried, and gives the player the other answer
abbrev pub AreTriedInVain : Position → ℕ → Cards → Cards → Bool → Type 0
AreTriedInVain position target untried known answer =
    (ownership : Ownership) (left : ℕ) → IsOwned ownership position → IsTight ownership position →
    cards_left position ≡ suc left →
    (card : Card) → set.contains (legal position) card ≡ true → set.contains untried card ≡ false →
    CardClaims (knowing ownership known) left position target card answer

-- what a hand may play to this lead is of its suit or no trump
abbrev pub MayNotRuff : Position → Card → Cards → Type 0
MayNotRuff position led hand =
    (card : Card) → set.contains (legal_of hand (led ∷ [])) card ≡ true →
    (card.suit ≡ led.suit) ⊎ (is_trump (trump_of position.strain) card ≡ false)

-- of the suit of each of these cards no player but one has more cards than there are masters of it
abbrev pub AreLong : Position → Place → Cards → Cards → Type 0
AreLong position leader cards masters =
    (card : Card) (place : Place) → set.contains cards card ≡ true → place ≢ leader →
    set.len (set.retain (hand_of position.hands place) (is_of card.suit))
    ≤ set.len (set.retain masters (is_of card.suit))

-- so many runners of the partner are in reach after the leader's own cards, and the masters are known that have to be
pub record AreReached (position : Position) (own : Cards) (tricks : ℕ) (known : Cards) : Type 0 where
  pub cards : Cards
  pub masters : Cards
  pub reach : AreInReach position (partner_of position.leader) own cards masters
  pub are_known : AreMastersKnown (led_by (partner_of position.leader) position) masters known
  pub many : tricks ≤ set.len cards

-- so many tricks are taken by runners of the leader and of the partner, and the masters are known that have to be
pub record AreSure (position : Position) (tricks : ℕ) (known : Cards) : Type 0 where
  pub valid : IsPosition position
  pub cards : Cards
  pub masters : Cards
  pub runners : AreRunners position cards masters
  pub are_known : AreMastersKnown position masters known
  pub partners : AreReached position cards (tricks - set.len cards) known
