-- What was found out of a position holds of one that is alike.
use Rattle.std.proofs.Common.{◌≡◌, ◌≢◌, ℕ, Bool, true, map, sym, ap, ◌∙◌, subst, inl, inr, ◌<◌, []}
use Rattle.std.specs.Prelude.{nat_le, ◌||◌}
use Rattle.std.specs.List.{list_any}
use Rattle.std.specs.Ordering.{eq_by_cmp}
use Rattle.std.proofs.lemmas.Bool.{or_cases, or_left, or_right, true≢false}
use Rattle.cards.specs.declared.card.Card.{Card}
use Rattle.table_terms.specs.declared.place.Place.{Place}
use Rattle.cards.specs.Card.{card_cmp}
use Rattle.cards.specs.Cards.{Cards}
use Rattle.cards.specs.Hands.{Hands, hand_of}
use Rattle.std.specs.FinSet as set
use Rattle.cards.specs.Play.{Position, cards_left}
use Rattle.double_dummy_laws.proofs.EqualCardsLemmas.{map_same, own_names, same_name}
use Rattle.double_dummy_laws.proofs.OwnershipLemmas.{in_tight, owned_knowing, tight, tight_tight}
use Rattle.cards.specs.DoubleDummy.{tricks}
use Rattle.double_dummy_laws.specs.Found.{IsFound, IsOwned, IsTight}
use Rattle.double_dummy_laws.specs.Renaming.{ArePlayed, HasNames, IsRenaming, Ownership, knowing}
use Rattle.cards.specs.Rank.{height}

-- each card of the first has its like in the second
pub record IsAlike (known : Cards) (p q : Position) (name : Card → Card) : Type 0 where
  pub strain : q.strain ≡ p.strain
  pub leader : q.leader ≡ p.leader
  pub first_table : p.table ≡ []
  pub second_table : q.table ≡ []
  pub left : cards_left p ≡ cards_left q
  pub suit : (place : Place) (card : Card) → set.contains (hand_of p.hands place) card ≡ true →
      (name card).suit ≡ card.suit
  pub into : (place : Place) (card : Card) → set.contains (hand_of p.hands place) card ≡ true →
      set.contains (hand_of q.hands place) (name card) ≡ true
  pub onto : (place : Place) (card : Card) → set.contains (hand_of q.hands place) card ≡ true →
      (old : Card) × (set.contains (hand_of p.hands place) old ≡ true) × (name old ≡ card)
  pub apart : (x y : Place) (a b : Card) → set.contains (hand_of p.hands x) a ≡ true →
      set.contains (hand_of p.hands y) b ≡ true → name a ≡ name b → a ≡ b
  pub order : (x y : Place) (a b : Card) → set.contains (hand_of p.hands x) a ≡ true →
      set.contains (hand_of p.hands y) b ≡ true →
      (set.contains known a || set.contains known b) ≡ true → x ≢ y → a.suit ≡ b.suit → height a.rank < height b.rank →
      height (name a).rank < height (name b).rank

-- the owners of the first position's cards are those of their likes
pulled : Ownership → (Card → Card) → Position → Ownership
pulled ownership name p = tight (record {
  owner = λ card. ownership.owner (name card);
  is_live = λ _. true;
  is_known =
      ownership.is_known;
}) p

module _ (known more : Cards) (p q : Position) (name : Card → Card) (alike : IsAlike known p q name)
    (each : (card : Card) → set.contains known card ≡ true →
    set.contains more (name card) ≡ true) (ownership : Ownership) (owned : IsOwned ownership q) where
  pulled_owner : (place : Place) (card : Card) → set.contains (hand_of p.hands place) card ≡ true →
      ownership.owner (name card) ≡ place
  pulled_owner place card held = (owned.held place (name card) (alike.into place card held)).1

  owned_pulled : IsOwned (pulled ownership name p) p
  unfolding pulled tight
  owned_pulled = record {
    held = λ place card held. (in_tight p place card held, pulled_owner place card held);
    on_table = subst (ArePlayed (pulled ownership name p) p.leader) (sym alike.first_table) tt;
  }

  holder : (card : Card) → (pulled ownership name p).is_live card ≡ true →
      (place : Place) × (set.contains (hand_of p.hands place) card ≡ true)
  unfolding pulled
  holder card live =
      elim (tight_tight (record {
        owner = λ card. ownership.owner (name card);
        is_live = λ _. true;
        is_known =
            ownership.is_known;
      }) p card live) [
        | inl held ↦ held
        | inr played ↦ absurd (true≢false (sym played ∙ ap (list_any (eq_by_cmp card_cmp card)) alike.first_table))
      ]

  joined : (name' : Card → Card) → IsRenaming (knowing ownership more) name' →
      IsRenaming (knowing (pulled ownership name p) known) (λ card. name' (name card))
  unfolding pulled tight
  joined name' renaming = record {
    suit = λ card live.
        let h = holder card live in
        renaming.suit (name card) (owned.held h.0 (name card) (alike.into h.0 card h.1)).0 ∙ alike.suit h.0 card h.1;
    apart = λ a b live_a live_b e.
        let ha = holder a live_a in
        let hb = holder b live_b in
        alike.apart ha.0 hb.0 a b ha.1 hb.1
        (renaming.apart (name a) (name b) (owned.held ha.0 (name a) (alike.into ha.0 a ha.1)).0
        (owned.held hb.0 (name b) (alike.into hb.0 b hb.1)).0 e);
    order = λ a b live_a live_b known_ab ne suits less.
        let ha = holder a live_a in
        let hb = holder b live_b in
        let places : ha.0 ≢ hb.0 = λ e. ne (pulled_owner ha.0 a ha.1 ∙ e ∙ sym (pulled_owner hb.0 b hb.1)) in
        renaming.order (name a) (name b) (owned.held ha.0 (name a) (alike.into ha.0 a ha.1)).0
        (owned.held hb.0 (name b) (alike.into hb.0 b hb.1)).0
        (elim (or_cases _ _ known_ab) [ inl k ↦ or_left _ _ (each a k) | inr k ↦ or_right _ _ (each b k) ])
        ne (alike.suit ha.0 a ha.1 ∙ suits ∙ sym (alike.suit hb.0 b hb.1))
        (alike.order ha.0 hb.0 a b ha.1 hb.1 known_ab places suits less);
  }

  names_joined : (name' : Card → Card) (hands : Hands) → HasNames (knowing ownership more) name' q.hands hands →
      HasNames (knowing (pulled ownership name p) known) (λ card. name' (name card)) p.hands hands
  unfolding pulled tight
  names_joined name' hands named = record {
    into = λ place card held. named.into place (name card) (alike.into place card held);
    onto = λ place card held.
        let middle = named.onto place card held in
        let old = alike.onto place middle.0 middle.1 in
        (old.0, old.1, ap name' old.2 ∙ middle.2);
    live = λ place card held. (in_tight p place card held, pulled_owner place card held);
  }

-- what was found out of a position holds of one that is alike
pub found_alike : (known more : Cards) (p q : Position) (name : Card → Card) (target : ℕ) (answer : Bool) →
    IsAlike known p q name →
    ((card : Card) → set.contains known card ≡ true → set.contains more (name card) ≡ true) →
    IsFound p target known answer → IsFound q target more answer
unfolding pulled
found_alike known more p q name target answer alike each found ownership owned tight_q name' hands renaming named =
    ap (nat_le target) (sym ((λ i. tricks (alike.left i) (record {
      hands = hands;
      strain = sym alike.strain i;
      leader =
          sym alike.leader i;
      table = tables i;
    }))))
    ∙ found (pulled ownership name p) (owned_pulled known more p q name alike each ownership owned)
    (tight_tight (record {
      owner = λ card. ownership.owner (name card);
      is_live = λ _. true;
      is_known =
          ownership.is_known;
    }) p)
    (λ card. name' (name card)) hands (joined known more p q name alike each ownership owned name' renaming)
    (names_joined known more p q name alike each ownership owned name' hands named)
  where
    tables : map (λ card. name' (name card)) p.table ≡ map name' q.table
    tables = ap (map (λ card. name' (name card))) alike.first_table ∙ sym (ap (map name') alike.second_table)

-- what was found out of a position is true of its value
pub found_value : (ownership : Ownership) (p : Position) (target : ℕ) (known : Cards) (answer : Bool) →
    IsOwned ownership p → IsTight ownership p → IsFound p target known answer →
    nat_le target (tricks (cards_left p) p) ≡ answer
found_value ownership p target known answer owned tight_p found =
    ap (λ table. nat_le target (tricks (cards_left p) (record {
      hands = p.hands;
      strain = p.strain;
      leader =
          p.leader;
      table = table;
    }))) (sym (map_same p.table))
    ∙ found ownership owned tight_p (λ card. card) p.hands (same_name (knowing ownership known))
    (own_names (knowing ownership known) p (owned_knowing ownership known p owned))
