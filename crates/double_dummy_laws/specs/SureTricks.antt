-- Cards that take tricks whatever the others play, and which of them have to be known.
use Rattle.std.specs.Prelude.{◌≡◌, ◌≢◌, ◌+◌, ◌*◌, ◌<◌, ◌≤◌, ◌⊎◌, ℕ, true, false, length, [], ◌∷◌}
use Rattle.std.specs.FinSet as set
use Rattle.cards.specs.declared.card.Card.{Card}
use Rattle.table_terms.specs.declared.place.Place.{Place}
use Rattle.table_terms.specs.declared.side.Side.{Side}
use Rattle.table_terms.specs.declared.side.Side.TheVariants.{NorthSouth, EastWest}
use Rattle.table_terms.specs.Place.{left_of, partner_of, side_of}
use Rattle.table_terms.specs.Strain.{trump_of}
use Rattle.cards.specs.Cards.{Cards}
use Rattle.cards.specs.Hands.{hand_of}
use Rattle.cards.specs.Rank.{height}
use Rattle.cards.specs.Play.{Position, cards_left, is_of, is_trump, legal_of, strength_in}
use Rattle.cards.specs.DoubleDummy.{double_dummy}

-- a side takes so many tricks at least of those that are left
abbrev pub TakesAtLeast : Side → ℕ → Position → Type 0
TakesAtLeast NorthSouth tricks position = tricks ≤ double_dummy position
TakesAtLeast EastWest tricks position =
    4 * (double_dummy position + tricks) ≤ cards_left position + length position.table

-- so many tricks of a side answer whether North and South take as many as the target, as the side would have it
abbrev pub AreEnough : Side → ℕ → Position → ℕ → Type 0
AreEnough NorthSouth tricks position target = target ≤ tricks
AreEnough EastWest tricks position target = cards_left position + length position.table < 4 * (target + tricks)

-- the cards are in the leader's hand, and none of them, once led, is beaten by a card of another player
pub record AreMasters (position : Position) (cards : Cards) : Type 0 where
  pub held : (card : Card) → set.contains cards card ≡ true →
      set.contains (hand_of position.hands position.leader) card ≡ true
  pub unbeaten : (card other : Card) (place : Place) → set.contains cards card ≡ true → place ≢ position.leader →
      set.contains (hand_of position.hands place) other ≡ true →
      strength_in position.strain card other < strength_in position.strain card card

-- those of the leader's cards are known of whose suit another player has a card
abbrev pub AreMastersKnown : Position → Cards → Cards → Type 0
AreMastersKnown position cards known =
    (card other : Card) (place : Place) → set.contains cards card ≡ true → place ≢ position.leader →
    set.contains (hand_of position.hands place) other ≡ true → other.suit ≡ card.suit →
    set.contains known card ≡ true

-- the cards are in the leader's hand, and some of them are masters; the others are long: no other player has more cards
-- of the suit than there are masters of it, nor a trump
pub record AreRunners (position : Position) (cards masters : Cards) : Type 0 where
  pub held : (card : Card) → set.contains cards card ≡ true →
      set.contains (hand_of position.hands position.leader) card ≡ true
  pub among : (card : Card) → set.contains masters card ≡ true → set.contains cards card ≡ true
  pub unbeaten : AreMasters position masters
  pub long : (card other : Card) (place : Place) → set.contains cards card ≡ true → place ≢ position.leader →
      set.contains (hand_of position.hands place) other ≡ true →
      (set.contains masters card ≡ true) ⊎ ((is_trump (trump_of position.strain) other ≡ false)
      × (set.len (set.retain (hand_of position.hands place) (is_of card.suit))
      ≤ set.len (set.retain masters (is_of card.suit))))

-- the position with another player on lead
abbrev pub led_by : Place → Position → Position
led_by place position = record { hands = position.hands; strain = position.strain; leader = place; table = [] }

-- the leader has a card of the suit of one of these
pub record HasEntry (position : Position) (cards : Cards) : Type 0 where
  pub own : Card
  pub entry : Card
  pub held : set.contains (hand_of position.hands position.leader) own ≡ true
  pub there : set.contains cards entry ≡ true
  pub suit : own.suit ≡ entry.suit

-- runners of another player, whom the leader can give the lead after his own cards: they are of other suits than those,
-- the leader has a card to lead to a master among them, and the player has enough other cards to play to the leader's
pub record AreInReach (position : Position) (place : Place) (own cards masters : Cards) : Type 0 where
  pub runners : AreRunners (led_by place position) cards masters
  pub apart : (card other : Card) → set.contains own card ≡ true → set.contains cards other ≡ true →
      card.suit ≢ other.suit
  pub entry : (card : Card) → set.contains cards card ≡ true → HasEntry position masters
  pub room : (card : Card) → set.contains cards card ≡ true →
      set.len own + set.len cards ≤ set.len (hand_of position.hands place)

-- the cards are trumps in a player's hand, each of them higher than every trump of the opponents
pub record AreBestTrumps (position : Position) (holder : Place) (cards : Cards) : Type 0 where
  pub held : (card : Card) → set.contains cards card ≡ true →
      set.contains (hand_of position.hands holder) card ≡ true
  pub trumps : (card : Card) → set.contains cards card ≡ true → is_trump (trump_of position.strain) card ≡ true
  pub higher : (card other : Card) (place : Place) → set.contains cards card ≡ true →
      side_of place ≢ side_of holder → set.contains (hand_of position.hands place) other ≡ true →
      is_trump (trump_of position.strain) other ≡ true → height other.rank < height card.rank

-- the cards are known, if an opponent has a card of their suit
abbrev pub AreTrumpsKnown : Position → Place → Cards → Cards → Type 0
AreTrumpsKnown position holder cards known =
    (card other : Card) (place : Place) → set.contains cards card ≡ true → side_of place ≢ side_of holder →
    set.contains (hand_of position.hands place) other ≡ true → other.suit ≡ card.suit →
    set.contains known card ≡ true

-- the cards are trumps in a player's hand, and those trumps of the opponents that are not among the others are lower than
-- each of them
pub record AreLongTrumps (position : Position) (holder : Place) (cards beaters : Cards) : Type 0 where
  pub held : (card : Card) → set.contains cards card ≡ true →
      set.contains (hand_of position.hands holder) card ≡ true
  pub trumps : (card : Card) → set.contains cards card ≡ true → is_trump (trump_of position.strain) card ≡ true
  pub lower : (card other : Card) (place : Place) → set.contains cards card ≡ true →
      side_of place ≢ side_of holder → set.contains (hand_of position.hands place) other ≡ true →
      is_trump (trump_of position.strain) other ≡ true →
      (set.contains beaters other ≡ true) ⊎ (height other.rank < height card.rank)

-- the cards are known, if an opponent has a card of their suit that is not among the others
abbrev pub AreLongTrumpsKnown : Position → Place → Cards → Cards → Cards → Type 0
AreLongTrumpsKnown position holder cards beaters known =
    (card other : Card) (place : Place) → set.contains cards card ≡ true → side_of place ≢ side_of holder →
    set.contains (hand_of position.hands place) other ≡ true → other.suit ≡ card.suit →
    (set.contains beaters other ≡ true) ⊎ (set.contains known card ≡ true)

-- the cards are trumps of a player or of the partner, no more of them than the player has trumps, and those trumps of the
-- opponents that are not among the others are lower than each of them
pub record AreSharedTrumps (position : Position) (holder : Place) (cards beaters : Cards) : Type 0 where
  pub held : (card : Card) → set.contains cards card ≡ true →
      (set.contains (hand_of position.hands holder) card ≡ true)
      ⊎ (set.contains (hand_of position.hands (partner_of holder)) card ≡ true)
  pub trumps : (card : Card) → set.contains cards card ≡ true → is_trump (trump_of position.strain) card ≡ true
  pub lower : (card other : Card) (place : Place) → set.contains cards card ≡ true →
      side_of place ≢ side_of holder → set.contains (hand_of position.hands place) other ≡ true →
      is_trump (trump_of position.strain) other ≡ true →
      (set.contains beaters other ≡ true) ⊎ (height other.rank < height card.rank)
  pub long : set.len cards
      ≤ set.len (set.retain (hand_of position.hands holder) (is_trump (trump_of position.strain)))

-- a player has a trump that is higher than all trumps of the opponents but one, and another trump to guard it; that one
-- is with the opponent at the player's right
pub record IsGuarded (position : Position) (holder : Place) (best second guard : Card) : Type 0 where
  pub held : set.contains (hand_of position.hands holder) second ≡ true
  pub guarded : set.contains (hand_of position.hands holder) guard ≡ true
  pub apart : guard ≢ second
  pub trump : is_trump (trump_of position.strain) second ≡ true
  pub guard_trump : is_trump (trump_of position.strain) guard ≡ true
  pub right : set.contains (hand_of position.hands (left_of (partner_of holder))) best ≡ true
  pub higher : (other : Card) (place : Place) → side_of place ≢ side_of holder →
      set.contains (hand_of position.hands place) other ≡ true → is_trump (trump_of position.strain) other ≡ true →
      other ≢ best → height other.rank < height second.rank

-- a player of the side that did not lead has a card that may be played to this lead, and that beats it and every card
-- that third hand may play
pub record IsWinningCard (position : Position) (led : Card) (holder : Place) (card : Card) : Type 0 where
  pub opponent : side_of holder ≢ side_of position.leader
  pub may : set.contains (legal_of (hand_of position.hands holder) (led ∷ [])) card ≡ true
  pub first : strength_in position.strain led led < strength_in position.strain led card
  pub third : (other : Card) →
      set.contains (legal_of (hand_of position.hands (partner_of position.leader)) (led ∷ [])) other ≡ true →
      strength_in position.strain led other < strength_in position.strain led card

-- the card is known, if the lead or a card that third hand may play is of its suit
pub record IsWinningCardKnown (position : Position) (led card : Card) (known : Cards) : Type 0 where
  pub first : led.suit ≡ card.suit → set.contains known card ≡ true
  pub third : (other : Card) →
      set.contains (legal_of (hand_of position.hands (partner_of position.leader)) (led ∷ [])) other ≡ true →
      other.suit ≡ card.suit → set.contains known card ≡ true
