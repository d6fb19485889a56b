-- A refused card speaks for those of its suit that no known card parts from it.
use Rattle.std.proofs.Common.{◌≡◌, ◌≢◌, ℕ, ◌<◌, Bool, true, false, refl, sym, ap, ◌∙◌, subst, inl, inr, arith}
use Rattle.std.specs.Prelude.{◌↔◌, nat_le}
use Rattle.std.proofs.lemmas.Bool.{or_cases, or_left, or_right, true≢false}
use Rattle.cards.specs.declared.card.Card.{Card}
use Rattle.cards.specs.CardBits.{same_number}
use Rattle.cards.specs.Cards.{Cards}
use Rattle.cards.specs.Hands.{hand_of}
use Rattle.cards.specs.Rank.{height}
use Rattle.table_terms.specs.Suit.{suit_number}
use Rattle.std.specs.FinSet as set
use Rattle.cards.specs.Play.{IsPosition, Position, after, cards_left, legal, to_play}
use Rattle.cards.specs.DoubleDummy.{worth}
use Rattle.double_dummy_laws.proofs.EqualCardsLemmas.{
  Swapped,
  first,
  map_same,
  names_swapped,
  neither,
  off_table,
  own_names,
  same_name,
  second,
  swap,
  swap_first,
  swap_twice,
  swapped,
  table_swapped,
}
use Rattle.double_dummy_laws.proofs.HandLemmas.{legal_follows}
use Rattle.double_dummy_laws.proofs.NeighbourLemmas.{one_less_after, same_side}
use Rattle.double_dummy_laws.proofs.OwnerLemmas.{owned_position, owners_of}
use Rattle.double_dummy_laws.proofs.OwnershipLemmas.{owned_knowing, owned_tight, tight, tight_tight}
use Rattle.double_dummy_laws.proofs.RenamingLemmas.{worth_in}
use Rattle.double_dummy_laws.specs.Found.{CardClaims, IsCardFound, IsOwned}
use Rattle.double_dummy_laws.specs.Neighbours.{AreUnparted, IsBetween}
use Rattle.double_dummy_laws.specs.Renaming.{IsRenaming, Ownership, knowing}

-- two live cards of a player's suit, neither of them known, with no other player's known card between them
pub record IsUnparted (ownership : Ownership) (a b : Card) : Type 0 where
  pub suit : a.suit ≡ b.suit
  pub owner : ownership.owner a ≡ ownership.owner b
  pub first_live : ownership.is_live a ≡ true
  pub second_live : ownership.is_live b ≡ true
  pub first_unknown : ownership.is_known a ≡ false
  pub second_unknown : ownership.is_known b ≡ false
  pub above : (other : Card) → ownership.is_known other ≡ true → ownership.owner other ≢ ownership.owner a →
      other.suit ≡ a.suit →
      (height a.rank < height other.rank) ↔ (height b.rank < height other.rank)
  pub below : (other : Card) → ownership.is_known other ≡ true → ownership.owner other ≢ ownership.owner a →
      other.suit ≡ a.suit →
      (height other.rank < height a.rank) ↔ (height other.rank < height b.rank)

unparted_flip : (ownership : Ownership) (a b : Card) → IsUnparted ownership a b → IsUnparted ownership b a
unparted_flip ownership a b near = record {
  suit = sym near.suit;
  owner = sym near.owner;
  first_live = near.second_live;
  second_live = near.first_live;
  first_unknown = near.second_unknown;
  second_unknown = near.first_unknown;
  above = λ other known ne same. let both =
      near.above other known (λ e. ne (e ∙ near.owner)) (same ∙ sym near.suit) in (both.1, both.0);
  below = λ other known ne same. let both =
      near.below other known (λ e. ne (e ∙ near.owner)) (same ∙ sym near.suit) in (both.1, both.0);
}

-- what is alike, beside the known cards, in a card and the one that it is swapped for
record IsKeptBeside (ownership : Ownership) (card to : Card) : Type 0 where
  pub suit : to.suit ≡ card.suit
  pub owner : ownership.owner to ≡ ownership.owner card
  pub live : ownership.is_live card ≡ true → ownership.is_live to ≡ true
  pub above : (other : Card) → ownership.is_known other ≡ true → ownership.owner other ≢ ownership.owner card →
      other.suit ≡ card.suit →
      height card.rank < height other.rank → height to.rank < height other.rank
  pub below : (other : Card) → ownership.is_known other ≡ true → ownership.owner other ≢ ownership.owner card →
      other.suit ≡ card.suit →
      height other.rank < height card.rank → height other.rank < height to.rank

kept_unparted : (ownership : Ownership) (a b : Card) → IsUnparted ownership a b → IsKeptBeside ownership a b
kept_unparted ownership a b near = record {
  suit = sym near.suit;
  owner = sym near.owner;
  live = λ _. near.second_live;
  above = λ other known ne same. (near.above other known ne same).0;
  below = λ other known ne same. (near.below other known ne same).0;
}

kept_itself : (ownership : Ownership) (card : Card) → IsKeptBeside ownership card card
kept_itself ownership card = record {
  suit = refl;
  owner = refl;
  live = λ l. l;
  above = λ _ _ _ _ h. h;
  below = λ _ _ _ _ h. h;
}

kept_beside : (ownership : Ownership) (a b : Card) → IsUnparted ownership a b → (card : Card) →
    IsKeptBeside ownership card (swap a b card)
kept_beside ownership a b near card =
    elim (swapped a b card) [
      | first same e ↦ along same e (kept_unparted ownership a b near)
      | second same e ↦ along same e (kept_unparted ownership b a (unparted_flip ownership a b near))
      | neither _ _ e ↦ along refl e (kept_itself ownership card)
    ]
  where
    along : {x y to target : Card} → x ≡ y → to ≡ target → IsKeptBeside ownership y target →
        IsKeptBeside ownership x to
    along {x} {y} {to} {target} same e k =
        subst (λ z. IsKeptBeside ownership z to) (sym same)
        (subst (λ z. IsKeptBeside ownership y z) (sym e) k)

-- a known card stays where it is
unmoved : (ownership : Ownership) (a b : Card) → IsUnparted ownership a b → (card : Card) →
    ownership.is_known card ≡ true → swap a b card ≡ card
unmoved ownership a b near card known =
    elim (swapped a b card) [
      | first same _ ↦ absurd (true≢false (sym known ∙ ap ownership.is_known same ∙ near.first_unknown))
      | second same _ ↦ absurd (true≢false (sym known ∙ ap ownership.is_known same ∙ near.second_unknown))
      | neither _ _ e ↦ e
    ]

-- a renaming after a swap of two cards that no known card parts
renaming_unparted : (ownership : Ownership) (name : Card → Card) (a b : Card) → IsRenaming ownership name →
    IsUnparted ownership a b → IsRenaming ownership (λ card. name (swap a b card))
renaming_unparted ownership name a b renaming near = record {
  suit = λ card live. let k = kept_beside ownership a b near card in
      renaming.suit (swap a b card) (k.live live) ∙ k.suit;
  apart = λ x y live_x live_y e.
      let same : swap a b x ≡ swap a b y =
      renaming.apart (swap a b x) (swap a b y) ((kept_beside ownership a b near x).live live_x)
      ((kept_beside ownership a b near y).live live_y) e in
      sym (swap_twice a b x) ∙ ap (swap a b) same ∙ swap_twice a b y;
  order = λ x y live_x live_y known ne suits less_xy.
      elim (or_cases _ _ known) [
        | inl known_x ↦
            let k = kept_beside ownership a b near y in
            let step : height x.rank < height (swap a b y).rank = k.below x known_x ne suits less_xy in
            subst (λ c. height (name c).rank < height (name (swap a b y)).rank)
            (sym (unmoved ownership a b near x known_x))
            (renaming.order x (swap a b y) live_x (k.live live_y) (or_left _ _ known_x)
            (λ e. ne (e ∙ k.owner)) (suits ∙ sym k.suit) step)
        | inr known_y ↦
            let k = kept_beside ownership a b near x in
            let step : height (swap a b x).rank < height y.rank =
            k.above y known_y (λ e. ne (sym e)) (sym suits) less_xy in
            subst (λ c. height (name (swap a b x)).rank < height (name c).rank)
            (sym (unmoved ownership a b near y known_y))
            (renaming.order (swap a b x) y (k.live live_x) live_y (or_right _ _ known_y)
            (λ e. ne (sym k.owner ∙ e)) (k.suit ∙ suits) step)
      ];
}

-- legal cards that none of the known cards parts
unparted_legal : (ownership : Ownership) (p : Position) (known : Cards) (card other : Card) → IsOwned ownership p →
    AreUnparted p known card other → IsUnparted (knowing ownership known) card other
unparted_legal ownership p known card other owned near = record {
  suit = near.suit;
  owner = of_card.1 ∙ sym of_other.1;
  first_live = of_card.0;
  second_live = of_other.0;
  first_unknown = near.first_out;
  second_unknown = near.second_out;
  above = λ x is_known ne of_suit. (sides x is_known ne of_suit).0;
  below = λ x is_known ne of_suit. (sides x is_known ne of_suit).1;
}
  where
    of_card : (ownership.is_live card ≡ true) × (ownership.owner card ≡ to_play p)
    of_card = owned.held (to_play p) card (legal_follows (hand_of p.hands (to_play p)) p.table card near.first).0

    of_other : (ownership.is_live other ≡ true) × (ownership.owner other ≡ to_play p)
    of_other = owned.held (to_play p) other (legal_follows (hand_of p.hands (to_play p)) p.table other near.second).0

    differs : (x y : Card) → ownership.owner x ≢ ownership.owner y → x.suit ≡ y.suit → height x.rank ≢ height y.rank
    differs x y ne of_suit e = ne (ap ownership.owner (same_number x y (omega (arith, ap suit_number of_suit))))

    sides : (x : Card) → set.contains known x ≡ true → ownership.owner x ≢ ownership.owner card →
        x.suit ≡ card.suit →
        ((height card.rank < height x.rank) ↔ (height other.rank < height x.rank)) ×
        ((height x.rank < height card.rank) ↔ (height x.rank < height other.rank))
    sides x is_known ne of_suit =
        same_side (height card.rank) (height other.rank) (height x.rank) (differs x card ne of_suit)
        (differs x other (λ e. ne (e ∙ of_other.1 ∙ sym of_card.1)) (of_suit ∙ near.suit))
        (λ l m. near.none x is_known (record { suit = of_suit; ranks = inl (l, m) }))
        (λ l m. near.none x is_known (record { suit = of_suit; ranks = inr (l, m) }))

-- what is claimed of a card holds of one that no known card parts from it
claims_unparted : (ownership : Ownership) (n : ℕ) (p : Position) (target : ℕ) (answer : Bool) (tried card : Card) →
    IsOwned ownership p → IsUnparted ownership tried card → set.contains (legal p) tried ≡ true →
    set.contains (legal p) card ≡ true →
    CardClaims ownership n p target tried answer → CardClaims ownership n p target card answer
claims_unparted ownership n p target answer tried card owned near may_tried may claims name hands renaming named =
    let held = (legal_follows (hand_of p.hands (to_play p)) p.table card may).0 in
    let held_tried = (legal_follows (hand_of p.hands (to_play p)) p.table tried may_tried).0 in
    let off = off_table ownership p.leader p.table card owned.on_table (owned.held (to_play p) card held).1 in
    let off_tried = off_table ownership p.leader p.table tried owned.on_table
    (owned.held (to_play p) tried held_tried).1 in
    let table = table_swapped name tried card p.table off_tried off in
    (λ i. nat_le target (worth_in n (record {
      hands = hands;
      strain = p.strain;
      leader = p.leader;
      table = sym table i;
    }) (name (sym (swap_first tried card) i))))
    ∙ claims (λ c. name (swap tried card c)) hands (renaming_unparted ownership name tried card renaming near)
    (names_swapped ownership name p.hands hands (to_play p) tried card held_tried held named)

pub unparted_claims : (ownership : Ownership) (n : ℕ) (p : Position) (known : Cards) (target : ℕ) (card other : Card)
    (answer : Bool) → IsOwned ownership p → AreUnparted p known card other →
    CardClaims (knowing ownership known) n p target card answer →
    CardClaims (knowing ownership known) n p target other answer
unparted_claims ownership n p known target card other answer owned near =
    claims_unparted (knowing ownership known) n p target answer card other (owned_knowing ownership known p owned)
    (unparted_legal ownership p known card other owned near) near.first near.second

-- what was found out of a card holds of one that no known card parts from it
pub speaks : (p : Position) (known : Cards) (target : ℕ) (card other : Card) (answer : Bool) →
    AreUnparted p known card other → IsCardFound p target known card answer → IsCardFound p target known other answer
speaks p known target card other answer near found ownership left owned tight_p count =
    unparted_claims ownership left p known target card other answer owned near
    (found ownership left owned tight_p count)

-- what was found out of a card is true of its worth
pub card_found_worth : (p : Position) (known : Cards) (target : ℕ) (card : Card) (answer : Bool) → IsPosition p →
    set.contains (legal p) card ≡ true → IsCardFound p target known card answer →
    nat_le target (worth p card) ≡ answer
card_found_worth p known target card answer valid may found =
    let ownership = tight (owners_of p) p in
    let owned = owned_tight (owners_of p) p (owned_position p valid) in
    ap (λ table. nat_le target (worth_in (cards_left (after p card)) (record {
      hands = p.hands;
      strain = p.strain;
      leader = p.leader;
      table = table;
    }) card)) (sym (map_same p.table))
    ∙ found ownership (cards_left (after p card)) owned (tight_tight (owners_of p) p)
    (one_less_after p card valid may) (λ c. c) p.hands (same_name (knowing ownership known))
    (own_names (knowing ownership known) p (owned_knowing ownership known p owned))
