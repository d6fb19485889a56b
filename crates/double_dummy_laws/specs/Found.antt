-- What is found out of a position, and of every other one that is like it as far as the known cards go.
use Rattle.std.specs.Prelude.{◌≡◌, ◌+◌, ℕ, suc, Bool, true, false, nat_le}
use Rattle.std.specs.FinSet as set
use Rattle.cards.specs.declared.card.Card.{Card}
use Rattle.table_terms.specs.declared.place.Place.{Place}
use Rattle.table_terms.specs.declared.side.Side.{Side}
use Rattle.table_terms.specs.declared.side.Side.TheVariants.{NorthSouth, EastWest}
use Rattle.cards.specs.Cards.{Cards}
use Rattle.cards.specs.Hands.{Hands, hand_of}
use Rattle.cards.specs.Play.{Position, after, cards_left, point}
use Rattle.cards.specs.DoubleDummy.{tricks}
use Rattle.double_dummy_laws.specs.Neighbours.{IsInPlay}
use Rattle.double_dummy_laws.specs.Renaming.{Ownership, IsRenaming, HasNames, renamed, ArePlayed, knowing}

-- the cards in the hands are live and their holders', and those on the table are live and the players' in turn
pub record IsOwned (ownership : Ownership) (position : Position) : Type 0 where
  pub held : (place : Place) (card : Card) → set.contains (hand_of position.hands place) card ≡ true →
      (ownership.is_live card ≡ true) × (ownership.owner card ≡ place)
  pub on_table : ArePlayed ownership position.leader position.table

-- only cards in the hands and on the table are live
abbrev pub IsTight : Ownership → Position → Type 0
IsTight ownership position = (card : Card) → ownership.is_live card ≡ true → IsInPlay position card

-- the answer to whether North and South take so many tricks, with so many cards left in the hands: the same in the
-- position and wherever its cards have other names
abbrev pub Claims : Ownership → ℕ → Position → ℕ → Bool → Type 0
Claims ownership left position target answer =
    (name : Card → Card) (hands : Hands) → IsRenaming ownership name → HasNames ownership name position.hands hands →
    nat_le target (tricks left (renamed name position hands)) ≡ answer

-- what was found out: the answer to whether North and South take so many tricks, where just these cards had to be known
abbrev pub IsFound : Position → ℕ → Cards → Bool → Type 0
IsFound position target known answer =
    (ownership : Ownership) → IsOwned ownership position → IsTight ownership position →
    Claims (knowing ownership known) (cards_left position) position target answer

-- the answer to whether North and South take so many tricks with this card, with so many cards left in the hands after
-- it: the same in the position and wherever its cards have other names
abbrev pub CardClaims : Ownership → ℕ → Position → ℕ → Card → Bool → Type 0
CardClaims ownership left position target card answer =
    (name : Card → Card) (hands : Hands) → IsRenaming ownership name → HasNames ownership name position.hands hands →
    nat_le target (point (renamed name position hands) (name card)
    + tricks left (after (renamed name position hands) (name card))) ≡ answer

-- what was found out of a card: the answer to whether North and South take so many tricks with it, where just these
-- cards had to be known
abbrev pub IsCardFound : Position → ℕ → Cards → Card → Bool → Type 0
IsCardFound position target known card answer =
    (ownership : Ownership) (left : ℕ) → IsOwned ownership position → IsTight ownership position →
    cards_left position ≡ suc left → CardClaims (knowing ownership known) left position target card answer

-- the answer that a side would rather have
abbrev pub wanted_answer : Side → Bool
wanted_answer NorthSouth = true
wanted_answer EastWest = false
