-- A suit's pattern is known from the cards that are left of it.
use Rattle.std.proofs.Common.{
  ◌≡◌,
  ◌≢◌,
  Bool,
  true,
  false,
  List,
  [],
  ◌∷◌,
  refl,
  sym,
  ap,
  ◌∙◌,
  subst,
  inl,
  inr,
  Some,
  None,
}
use Rattle.std.specs.Prelude.{◌&&◌, if◌then◌else◌}
use Rattle.std.proofs.lemmas.Bool.{
  or_cases,
  or_left,
  or_right,
  and_parts,
  and_from,
  true≢false,
  false_from_ne_true,
  eq-eqb,
}
use Rattle.cards.specs.declared.card.Card.{Card}
use Rattle.table_terms.specs.declared.suit.Suit.{Suit}
use Rattle.cards.specs.declared.rank.Rank.{Rank}
use Rattle.table_terms.specs.declared.place.Place.{Place}
use Rattle.table_terms.specs.declared.place.Place.TheVariants.{North, East, South, West}
use Rattle.cards.specs.Rank.{ranks_down}
use Rattle.cards.specs.Cards.{Cards}
use Rattle.cards.specs.Hands.{Hands, IsDeal, hand_of}
use Rattle.cards.specs.CardBits.{card_cmp_total}
use Rattle.std.specs.FinSet as set
use Rattle.position_patterns.specs.declared.deal_patterns.Remainder.{Remainder}
use Rattle.cards.specs.Play.{IsApart, is_of, without}
use Rattle.position_patterns.specs.Remainder.{IsAmong, IsLeftOf, IsPartOf, IsTrueRemainder, all_held}
use Rattle.position_patterns.specs.Tops.{IsPatternOf}
use Rattle.double_dummy_laws.proofs.HandLemmas.{in_suit, without_had}
use Rattle.double_dummy_laws.specs.Pattern.{held_before, held_of, holder_of, holding}

pub either_way : (a b : Bool) → (a ≡ true → b ≡ true) → (b ≡ true → a ≡ true) → a ≡ b
either_way true b to from = sym (to refl)
either_way false b to from = sym (false_from_ne_true b (λ t. true≢false (sym (from t))))

in_left : (s t : Cards) (card : Card) → set.contains s card ≡ true → set.contains (set.union s t) card ≡ true
in_left s t card held = set.contains-union card_cmp_total s t card ∙ or_left _ _ held

in_right : (s t : Cards) (card : Card) → set.contains t card ≡ true → set.contains (set.union s t) card ≡ true
in_right s t card held = set.contains-union card_cmp_total s t card ∙ or_right _ _ held

pub held_in_all : (hands : Hands) (place : Place) (card : Card) → set.contains (hand_of hands place) card ≡ true →
    set.contains (all_held hands) card ≡ true
held_in_all hands North card held = in_left _ _ card (in_left hands.north hands.east card held)
held_in_all hands East card held = in_left _ _ card (in_right hands.north hands.east card held)
held_in_all hands South card held = in_right _ _ card (in_left hands.south hands.west card held)
held_in_all hands West card held = in_right _ _ card (in_right hands.south hands.west card held)

pub held_by_one : (hands : Hands) (card : Card) → set.contains (all_held hands) card ≡ true →
    (place : Place) × (set.contains (hand_of hands place) card ≡ true)
held_by_one hands card held =
    elim (or_cases _ _ (sym (set.contains-union card_cmp_total (set.union hands.north hands.east)
    (set.union hands.south hands.west) card) ∙ held)) [
      | inl ne ↦ elim (or_cases _ _ (sym (set.contains-union card_cmp_total hands.north hands.east card) ∙ ne))
          [ inl n ↦ (North, n) | inr e ↦ (East, e) ]
      | inr sw ↦ elim (or_cases _ _ (sym (set.contains-union card_cmp_total hands.south hands.west card) ∙ sw))
          [ inl s ↦ (South, s) | inr w ↦ (West, w) ]
    ]

pub same_holder : (hands others : Hands) (card : Card) →
    ((place : Place) → set.contains (hand_of hands place) card ≡ set.contains (hand_of others place) card) →
    holder_of hands card ≡ holder_of others card
unfolding holder_of
same_holder hands others card same = λ i.
    if same North i then Some North
    else (if same East i then Some East
    else (if same South i then Some South
    else (if same West i then Some West else None)))

same_held : (hands others : Hands) (suit : Suit) →
    ((rank : Rank) → holder_of hands (record { suit = suit; rank = rank })
    ≡ holder_of others (record { suit = suit; rank = rank })) →
    (ranks : List Rank) → held_of hands suit ranks ≡ held_of others suit ranks
same_held hands others suit same [] = refl
same_held hands others suit same (rank ∷ ranks) =
    λ i. held_before (record { suit = suit; rank = rank }) (same rank i) (same_held hands others suit same ranks i)

pub is_of_own : (suit : Suit) (rank : Rank) → is_of suit (record { suit = suit; rank = rank }) ≡ true
is_of_own suit rank = eq-eqb _ _ refl

goes_over : (whole hands others : Hands) (suit : Suit) → IsApart whole → IsPartOf hands whole → IsPartOf others whole →
    set.retain (all_held hands) (is_of suit) ≡ set.retain (all_held others) (is_of suit) →
    (place : Place) (rank : Rank) →
    set.contains (hand_of hands place) (record { suit = suit; rank = rank }) ≡ true →
    set.contains (hand_of others place) (record { suit = suit; rank = rank }) ≡ true
goes_over whole hands others suit apart part part' same place rank held =
    let card : Card = record { suit = suit; rank = rank } in
    let there : set.contains (set.retain (all_held hands) (is_of suit)) card ≡ true =
    in_suit (all_held hands) suit card ∙ and_from _ _ (held_in_all hands place card held) (is_of_own suit rank) in
    let here = held_by_one others card
    (and_parts _ _ (sym (in_suit (all_held others) suit card) ∙ ap (λ s. set.contains s card) (sym same)
    ∙ there)).0 in
    subst (λ p. set.contains (hand_of others p) card ≡ true)
    (apart here.0 place card (part' here.0 card here.1) (part place card held)) here.1

pub same_holding : (whole hands others : Hands) (suit : Suit) → IsApart whole → IsPartOf hands whole →
    IsPartOf others whole →
    set.retain (all_held hands) (is_of suit) ≡ set.retain (all_held others) (is_of suit) →
    holding hands suit ≡ holding others suit
same_holding whole hands others suit apart part part' same =
    same_held hands others suit (λ rank. same_holder hands others (record { suit = suit; rank = rank }) (λ place.
    either_way _ _ (goes_over whole hands others suit apart part part' same place rank)
    (goes_over whole others hands suit apart part' part (sym same) place rank))) ranks_down

pub true_remainder : (whole hands : Hands) (left : Remainder) → IsLeftOf whole hands →
    left.cards ≡ set.retain (all_held hands) (is_of left.suit) →
    IsPatternOf left.pattern (holding hands left.suit) → IsTrueRemainder whole left
true_remainder whole hands left is cards pattern' others part same =
    subst (IsPatternOf left.pattern)
    (same_holding whole hands others left.suit is.apart is.part part (sym cards ∙ sym same)) pattern'

pub left_without : (whole hands : Hands) (card : Card) → IsLeftOf whole hands → IsLeftOf whole (without hands card)
left_without whole hands card is =
    record {
      apart = is.apart;
      part =
          λ place other held. is.part place other (without_had hands card other place held).0;
    }

-- each player's cards among some, hand by hand
pub among_of : (whole part : Hands) (cards : Cards) →
    ((card : Card) → set.contains part.north card ≡ (set.contains whole.north card && set.contains cards card)) →
    ((card : Card) → set.contains part.east card ≡ (set.contains whole.east card && set.contains cards card)) →
    ((card : Card) → set.contains part.south card ≡ (set.contains whole.south card && set.contains cards card)) →
    ((card : Card) → set.contains part.west card ≡ (set.contains whole.west card && set.contains cards card)) →
    IsAmong part cards whole
among_of whole part cards n e s w North = n
among_of whole part cards n e s w East = e
among_of whole part cards n e s w South = s
among_of whole part cards n e s w West = w

-- cards among a player's are that player's
pub among_is_part : (whole part : Hands) (cards : Cards) → IsAmong part cards whole → IsPartOf part whole
among_is_part whole part cards among place card held = (and_parts _ _ (sym (among place card) ∙ held)).0

-- no card of a deal is in two hands
pub deal_apart : (deal : Hands) → IsDeal deal → IsApart deal
deal_apart deal is place other card held held' =
    same place other (λ differ. true≢false (sym held' ∙ is.apart place other differ card held))
  where
    same : (place other : Place) → (place ≢ other → ⊥) → place ≡ other
    same North North never = refl
    same East East never = refl
    same South South never = refl
    same West West never = refl
    same North East never = absurd (never (λ e. cc))
    same North South never = absurd (never (λ e. cc))
    same North West never = absurd (never (λ e. cc))
    same East North never = absurd (never (λ e. cc))
    same East South never = absurd (never (λ e. cc))
    same East West never = absurd (never (λ e. cc))
    same South North never = absurd (never (λ e. cc))
    same South East never = absurd (never (λ e. cc))
    same South West never = absurd (never (λ e. cc))
    same West North never = absurd (never (λ e. cc))
    same West East never = absurd (never (λ e. cc))
    same West South never = absurd (never (λ e. cc))
