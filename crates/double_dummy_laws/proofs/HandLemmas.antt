-- Hands as sets: what is left after a card, and what may be played.
use Rattle.std.proofs.Common.{◌≡◌, ◌≢◌, true, false, ◌⊎◌, List, [], ◌∷◌, refl, sym, ap, ◌∙◌, inl, inr, cond}
use Rattle.std.specs.Prelude.{nat_eq, not, ◌&&◌, ⊤}
use Rattle.std.specs.List.{list_any}
use Rattle.std.specs.Ordering.{eq_by_cmp, is_eq}
use Rattle.std.specs.Cmp.{tied_itself}
use Rattle.std.proofs.lemmas.Bool.{
  cases_Bool,
  or_cases,
  and_parts,
  and_from,
  not-true,
  not_from_false,
  true≢false,
  eqb-true,
  eq-eqb,
  false_from_ne_true,
  or_left,
  or_right,
  and_left,
  and_right,
}
use Rattle.cards.specs.declared.card.Card.{Card}
use Rattle.table_terms.specs.declared.suit.Suit.{Suit}
use Rattle.table_terms.specs.declared.place.Place.{Place}
use Rattle.table_terms.specs.declared.place.Place.TheVariants.{North, East, South, West}
use Rattle.cards.specs.Card.{card_cmp}
use Rattle.cards.specs.Cards.{Cards}
use Rattle.cards.specs.Hands.{Hands, hand_of}
use Rattle.cards.specs.CardBits.{card_cmp_total, tied_is_equal}
use Rattle.cards.proofs.CardBitsLemmas.{card_cmp-IsAntisymmetric, same_cards}
use Rattle.std.specs.FinSet as set
use Rattle.cards.specs.Play.{is_of, legal_of, without}
use Rattle.double_dummy_laws.proofs.BestLemmas.{Among}

pub tied : (a b : Card) → a ≡ b → eq_by_cmp card_cmp a b ≡ true
tied a b e = ap (eq_by_cmp card_cmp a) (sym e) ∙ ap is_eq (tied_itself card_cmp_total a)

-- the cards of a set, as a list
pub among_items : (hand : Cards) (card : Card) → set.contains hand card ≡ true → Among card (set.items hand)
among_items hand card in' = from_any (set.items hand) (sym (set.contains-items hand card) ∙ in')
  where
    from_any : (cards : List Card) → list_any (eq_by_cmp card_cmp card) cards ≡ true → Among card cards
    from_any [] none = absurd (true≢false (sym none))
    from_any (first ∷ rest) one =
        elim (or_cases _ _ one) [
          | inl here ↦ inl (tied_is_equal card first here)
          | inr later ↦ inr
              (from_any rest later)
        ]

pub items_among : (hand : Cards) (card : Card) → Among card (set.items hand) → set.contains hand card ≡ true
items_among hand card among = set.contains-items hand card ∙ to_any (set.items hand) among
  where
    to_any : (cards : List Card) → Among card cards → list_any (eq_by_cmp card_cmp card) cards ≡ true
    to_any [] none = absurd none
    to_any (first ∷ rest) (inl here) = or_left _ _ (tied card first here)
    to_any (first ∷ rest) (inr later) = or_right _ _ (to_any rest later)

-- a hand without a card, for each player
left_without : (hands : Hands) (played card : Card) (place : Place) →
    set.contains (hand_of (without hands played) place) card
    ≡ (not (eq_by_cmp card_cmp card played) && set.contains (hand_of hands place) card)
left_without hands played card North = set.contains-remove card_cmp_total hands.north played card
left_without hands played card East = set.contains-remove card_cmp_total hands.east played card
left_without hands played card South = set.contains-remove card_cmp_total hands.south played card
left_without hands played card West = set.contains-remove card_cmp_total hands.west played card

pub without_had : (hands : Hands) (played card : Card) (place : Place) →
    set.contains (hand_of (without hands played) place) card ≡ true →
    (set.contains (hand_of hands place) card ≡ true) × (card ≢ played)
without_had hands played card place in' =
    let parts = and_parts _ _ (sym (left_without hands played card place) ∙ in') in
    (parts.1, λ e. true≢false (sym (tied card played e) ∙ not-true _ parts.0))

pub has_without : (hands : Hands) (played card : Card) (place : Place) →
    set.contains (hand_of hands place) card ≡ true → card ≢ played →
    set.contains (hand_of (without hands played) place) card ≡ true
has_without hands played card place in' other =
    left_without hands played card place
    ∙ and_from _ _ (not_from_false _ (false_from_ne_true _ (λ t. other (tied_is_equal card played t)))) in'

-- the card follows suit, or the hand has none of it
abbrev pub Follows : Cards → List Card → Card → Type 0
Follows hand [] card = ⊤
Follows hand (led ∷ _) card = (is_of led.suit card ≡ true) ⊎ ((other : Card) → set.contains hand other ≡ true →
    is_of led.suit other ≡ false)

pub in_suit : (hand : Cards) (suit : Suit) (card : Card) →
    set.contains (set.retain hand (is_of suit)) card ≡ (set.contains hand card && is_of suit card)
in_suit hand suit card = set.contains-retain hand (is_of suit) card
    (λ x e. ap (is_of suit) (sym (card_cmp-IsAntisymmetric card x e)))

-- a hand with no card of a suit
not_there : (hand : Cards) (suit : Suit) (other : Card) → nat_eq (set.len (set.retain hand (is_of suit))) 0 ≡ true →
    set.contains hand other ≡ true →
    is_of suit other ≡ false
not_there hand suit other void here =
    false_from_ne_true _ (λ same. true≢false (
    sym (in_suit hand suit other ∙ and_from _ _ here same)
    ∙ ap (λ cards. set.contains cards other) (set.empty_of_len _ (eqb-true _ _ void))
    ∙ set.contains-empty card_cmp other))

void : (hand : Cards) (suit : Suit) → ((other : Card) → set.contains hand other ≡ true → is_of suit other ≡ false) →
    nat_eq (set.len (set.retain hand (is_of suit))) 0 ≡ true
void hand suit none =
    eq-eqb _ _ (ap set.len (same_cards (set.retain hand (is_of suit)) set.empty (λ card.
    in_suit hand suit card
    ∙ elim (cases_Bool (set.contains hand card)) as (λ _. (set.contains hand card && is_of suit card) ≡ false) [
      | inl here ↦ and_right _ _ (none card here)
      | inr gone ↦ and_left _ _ gone
    ]
    ∙ sym (set.contains-empty card_cmp card))) ∙ set.len-empty card_cmp)

pub legal_follows : (hand : Cards) (table : List Card) (card : Card) → set.contains (legal_of hand table) card ≡ true →
    (set.contains hand card ≡ true) × Follows hand table card
legal_follows hand [] card in' = (in', tt)
legal_follows hand (led ∷ table) card in' =
    elim (nat_eq (set.len (set.retain hand (is_of led.suit))) 0) as
    (λ b. nat_eq (set.len (set.retain hand (is_of led.suit))) 0 ≡ b →
    set.contains (cond b hand (set.retain hand (is_of led.suit))) card ≡ true →
    (set.contains hand card ≡ true) × Follows hand (led ∷ table) card) [
      | true ↦ λ void there. (there, inr (λ other here. not_there hand led.suit other void here))
      | false ↦ λ _ there. let parts =
          and_parts _ _ (sym (in_suit hand led.suit card) ∙ there) in (parts.0, inl parts.1)
    ] refl in'

pub follows_legal : (hand : Cards) (table : List Card) (card : Card) → set.contains hand card ≡ true →
    Follows hand table card →
    set.contains (legal_of hand table) card ≡ true
follows_legal hand [] card in' follows = in'
follows_legal hand (led ∷ table) card in' follows =
    elim (nat_eq (set.len (set.retain hand (is_of led.suit))) 0) as
    (λ b. nat_eq (set.len (set.retain hand (is_of led.suit))) 0 ≡ b →
    set.contains (cond b hand (set.retain hand (is_of led.suit))) card ≡ true) [
      | true ↦ λ _. in'
      | false ↦ λ some. elim follows [
        | inl same ↦ in_suit hand led.suit card ∙ and_from _ _ in' same
        | inr none ↦ absurd (true≢false (sym (void hand led.suit none) ∙ some))
      ]
    ] refl
