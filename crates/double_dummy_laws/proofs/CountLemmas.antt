-- How many cards are left.
use Rattle.std.proofs.Common.{◌≡◌, ◌≢◌, ◌+◌, ◌-◌, ◌<◌, ◌≤◌, true, false, sym, ap, ◌∙◌, inl, inr, arith, suc}
use Rattle.std.proofs.lemmas.Bool.{cases_Bool, true≢false, false_from_ne_true, cond-true, cond-false}
use Rattle.cards.specs.declared.card.Card.{Card}
use Rattle.table_terms.specs.declared.place.Place.{Place}
use Rattle.table_terms.specs.declared.place.Place.TheVariants.{North, East, South, West}
use Rattle.cards.specs.Card.{card_cmp}
use Rattle.cards.specs.Cards.{Cards}
use Rattle.cards.specs.CardBits.{card_cmp_total}
use Rattle.cards.specs.Hands.{Hands, hand_of}
use Rattle.std.specs.FinSet as set
use Rattle.cards.specs.Play.{Position, after, cards_left, legal, to_play}
use Rattle.double_dummy_laws.proofs.HandLemmas.{legal_follows}
use Rattle.double_dummy_laws.specs.Found.{IsOwned}
use Rattle.double_dummy_laws.specs.Renaming.{Ownership}

-- a hand without a card has one card less, or none
pub has_less : (hand : Cards) (card : Card) → set.contains hand card ≡ true →
    suc (set.len (set.remove hand card)) ≡ set.len hand
has_less hand card held =
    let less : set.len (set.remove hand card) ≡ set.len hand - 1 =
    set.len-remove card_cmp_total hand card ∙ cond-true _ _ _ held in
    let some : set.len hand ≡ 0 → ⊥ =
    λ none. true≢false (sym held ∙ ap (λ s. set.contains s card) (set.empty_of_len hand none)
    ∙ set.contains-empty card_cmp card) in
    omega arith

pub has_same : (hand : Cards) (card : Card) → set.contains hand card ≡ false → set.len (set.remove hand card) ≡ set.len hand
has_same hand card gone = set.len-remove card_cmp_total hand card ∙ cond-false _ _ _ gone

pub no_more : (hand : Cards) (card : Card) → set.len (set.remove hand card) ≤ set.len hand
no_more hand card = elim (cases_Bool (set.contains hand card))
    [ inl held ↦ omega (arith, has_less hand card held) | inr gone ↦ omega (arith, has_same hand card gone) ]

-- a played card leaves fewer cards
pub fewer_left : (hands : Hands) (place : Place) (card : Card) → set.contains (hand_of hands place) card ≡ true →
    set.len (set.remove hands.north card) + set.len (set.remove hands.east card) + set.len
    (set.remove hands.south card) + set.len (set.remove hands.west card)
    < set.len hands.north + set.len hands.east + set.len hands.south + set.len hands.west
fewer_left hands North card held =
    omega (
      arith,
      has_less hands.north card held,
      no_more hands.east card,
      no_more hands.south card,
      no_more hands.west card,
    )
fewer_left hands East card held =
    omega (
      arith,
      has_less hands.east card held,
      no_more hands.north card,
      no_more hands.south card,
      no_more hands.west card,
    )
fewer_left hands South card held =
    omega (
      arith,
      has_less hands.south card held,
      no_more hands.east card,
      no_more hands.north card,
      no_more hands.west card,
    )
fewer_left hands West card held =
    omega (
      arith,
      has_less hands.west card held,
      no_more hands.east card,
      no_more hands.south card,
      no_more hands.north card,
    )

pub fewer_after : (p : Position) (card : Card) → set.contains (legal p) card ≡ true →
    cards_left (after p card) < cards_left p
fewer_after p card may = fewer_left p.hands (to_play p) card
    (legal_follows (hand_of p.hands (to_play p)) p.table card may).0

one_less : (hands : Hands) (place : Place) (card : Card) → set.contains (hand_of hands place) card ≡ true →
    ((other : Place) → other ≢ place → set.contains (hand_of hands other) card ≡ false) →
    set.len hands.north + set.len hands.east + set.len hands.south + set.len hands.west
    ≡ suc (set.len (set.remove hands.north card) + set.len (set.remove hands.east card) + set.len
    (set.remove hands.south card) + set.len (set.remove hands.west card))
one_less hands North card held none =
    omega (
      arith,
      has_less hands.north card held,
      has_same hands.east card (none East (λ e. cc)),
      has_same hands.south card (none South (λ e. cc)),
      has_same hands.west card (none West (λ e. cc)),
    )
one_less hands East card held none =
    omega (
      arith,
      has_less hands.east card held,
      has_same hands.north card (none North (λ e. cc)),
      has_same hands.south card (none South (λ e. cc)),
      has_same hands.west card (none West (λ e. cc)),
    )
one_less hands South card held none =
    omega (
      arith,
      has_less hands.south card held,
      has_same hands.east card (none East (λ e. cc)),
      has_same hands.north card (none North (λ e. cc)),
      has_same hands.west card (none West (λ e. cc)),
    )
one_less hands West card held none =
    omega (
      arith,
      has_less hands.west card held,
      has_same hands.east card (none East (λ e. cc)),
      has_same hands.south card (none South (λ e. cc)),
      has_same hands.north card (none North (λ e. cc)),
    )

-- where each card has one owner, a played card leaves one card less
pub left_after : (ownership : Ownership) (p : Position) (card : Card) → IsOwned ownership p →
    set.contains (legal p) card ≡ true → cards_left p ≡ suc (cards_left (after p card))
left_after ownership p card owned may =
    let held = (legal_follows (hand_of p.hands (to_play p)) p.table card may).0 in
    one_less p.hands (to_play p) card held
    (λ other ne. false_from_ne_true _
    (λ also. ne (sym (owned.held other card also).1 ∙ (owned.held (to_play p) card held).1)))
