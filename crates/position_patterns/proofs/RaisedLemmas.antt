-- A suit's pattern with one card more, that is higher than the others.
use Rattle.std.proofs.Common.{
  ◌≡◌,
  ◌≢◌,
  ℕ,
  ◌+◌,
  ◌*◌,
  ◌<◌,
  ◌≤◌,
  true,
  false,
  List,
  [],
  ◌∷◌,
  refl,
  sym,
  ap,
  ◌∙◌,
  inl,
  inr,
  arith,
  zero,
  suc,
  Some,
  None,
  add-one,
}
use Rattle.std.specs.Prelude.{◌&&◌}
use Rattle.std.proofs.lemmas.Bool.{and_from, and_parts, cases_lt, cond-false, false_from_ne_true, true≢false}
use Rattle.cards.specs.declared.card.Card.{Card}
use Rattle.table_terms.specs.declared.suit.Suit.{Suit}
use Rattle.table_terms.specs.declared.place.Place.{Place}
use Rattle.table_terms.specs.declared.place.Place.TheVariants.{North, East, South, West}
use Rattle.cards.specs.declared.rank.Rank.{Rank}
use Rattle.cards.specs.Card.{card_cmp, number_in_pack}
use Rattle.cards.specs.Cards.{Cards}
use Rattle.cards.specs.Hands.{Hands, hand_of}
use Rattle.cards.specs.Rank.{height}
use Rattle.cards.proofs.CardBitsLemmas.{same_cards}
use Rattle.std.specs.FinSet as set
use Rattle.cards.specs.Play.{IsApart, is_of, without}
use Rattle.table_terms.specs.Place.{place_number}
use Rattle.position_patterns.specs.declared.deal_patterns.Remainder.{Remainder}
use Rattle.position_patterns.specs.declared.pattern.SuitPattern.{SuitPattern}
use Rattle.position_patterns.specs.Remainder.{IsPartOf, IsTrueRemainder, all_held}
use Rattle.position_patterns.specs.Tops.{IsPatternOf, digits, lengths_number, place_weight}
use Rattle.position_patterns.proofs.RankLemmas.{held_below, held_below-all, held_below-free, held_below-some, rank_from, ranks_below}
use Rattle.position_patterns.proofs.RemainderLemmas.{either_way, held_by_one, held_in_all, is_of_own, same_holder}
use Rattle.position_patterns.proofs.SetLemmas.{inserted, just_inserted, still_inserted}
use Rattle.double_dummy_laws.proofs.HandLemmas.{has_without, in_suit, without_had}
use Rattle.double_dummy_laws.proofs.PatternLemmas.{held_holder}
use Rattle.double_dummy_laws.proofs.WinnerLemmas.{height_below}
use Rattle.double_dummy_laws.specs.Pattern.{Held, held_before, holder_of, holding}

height_from : (k : ℕ) → k < 13 → height (rank_from k) ≡ k
unfolding rank_from
height_from zero few = refl
height_from (suc zero) few = refl
height_from (suc (suc zero)) few = refl
height_from (suc (suc (suc zero))) few = refl
height_from (suc (suc (suc (suc zero)))) few = refl
height_from (suc (suc (suc (suc (suc zero))))) few = refl
height_from (suc (suc (suc (suc (suc (suc zero)))))) few = refl
height_from (suc (suc (suc (suc (suc (suc (suc zero))))))) few = refl
height_from (suc (suc (suc (suc (suc (suc (suc (suc zero)))))))) few = refl
height_from (suc (suc (suc (suc (suc (suc (suc (suc (suc zero))))))))) few = refl
height_from (suc (suc (suc (suc (suc (suc (suc (suc (suc (suc zero)))))))))) few = refl
height_from (suc (suc (suc (suc (suc (suc (suc (suc (suc (suc (suc zero))))))))))) few = refl
height_from (suc (suc (suc (suc (suc (suc (suc (suc (suc (suc (suc (suc zero)))))))))))) few = refl
height_from (suc (suc (suc (suc (suc (suc (suc (suc (suc (suc (suc (suc (suc k))))))))))))) few = absurd (omega (arith, few))

-- a card that nobody holds
none_holds : (hands : Hands) (card : Card) → ((place : Place) → set.contains (hand_of hands place) card ≡ false) →
    holder_of hands card ≡ None
unfolding holder_of
none_holds hands card out =
    cond-false _ _ _ (out North) ∙ cond-false _ _ _ (out East) ∙ cond-false _ _ _ (out South)
    ∙ cond-false _ _ _ (out West)

-- what is left of a suit: a part of the deal with one card, and other cards that are lower
module _ (whole hands : Hands) (suit : Suit) (rank : Rank) (place : Place) (less : Cards) (apart : IsApart whole) (part
    : IsPartOf hands whole) (holder : holder_of whole (record { suit = suit; rank = rank }) ≡ Some place) (lower
    : (other : Card) → set.contains less other ≡ true → number_in_pack other
    < number_in_pack (record { suit = suit; rank = rank })) (same : set.retain (all_held hands) (is_of suit)
    ≡ set.insert less (record { suit = suit; rank = rank })) where
  -- the card
  abbrev it : Card
  it = record { suit = suit; rank = rank }

  -- the part without it
  abbrev pub others : Hands
  others = without hands it

  pub others_part : IsPartOf others whole
  others_part at card held = part at card (without_had hands it card at held).0

  apart_here : IsApart hands
  apart_here at other card held also = apart at other card (part at card held) (part other card also)

  not_it : (card : Card) → set.contains less card ≡ true → card ≢ it
  not_it card in' e = omega (arith, lower card in', ap number_in_pack e)

  -- a held card of the suit is it, or one of the lower ones
  among_left : (at : Place) (card : Card) → set.contains (hand_of hands at) card ≡ true → is_of suit card ≡ true →
      set.contains (set.insert less it) card ≡ true
  among_left at card held of_suit =
      sym (ap (λ s. set.contains s card) same) ∙ in_suit (all_held hands) suit card
      ∙ and_from _ _ (held_in_all hands at card held) of_suit

  -- and each of these is a held card of the suit
  left_held : (card : Card) → set.contains (set.insert less it) card ≡ true →
      ((at : Place) × (set.contains (hand_of hands at) card ≡ true)) × (is_of suit card ≡ true)
  left_held card in' =
      let parts = and_parts _ _ (sym (in_suit (all_held hands) suit card) ∙ ap (λ s. set.contains s card) same ∙ in') in
      (held_by_one hands card parts.0, parts.1)

  there : (card : Card) → set.contains (set.retain (all_held others) (is_of suit)) card ≡ true →
      set.contains less card ≡ true
  there card in' =
      let parts = and_parts _ _ (sym (in_suit (all_held others) suit card) ∙ in') in
      let by = held_by_one others card parts.0 in
      let was = without_had hands it card by.0 by.1 in
      elim (just_inserted less (set.insert less it) it card refl (among_left by.0 card was.0 parts.1)) [
        | inl e ↦ absurd (was.1 e)
        | inr h ↦ h
      ]

  here : (card : Card) → set.contains less card ≡ true →
      set.contains (set.retain (all_held others) (is_of suit)) card ≡ true
  here card in' =
      let by = left_held card (still_inserted less (set.insert less it) it card refl in') in
      in_suit (all_held others) suit card
      ∙ and_from _ _ (held_in_all others by.0.0 card (has_without hands it card by.0.0 by.0.1 (not_it card in'))) by.1

  pub others_left : set.retain (all_held others) (is_of suit) ≡ less
  others_left = same_cards _ _ (λ card. either_way _ _ (there card) (here card))

  holder_here : holder_of hands it ≡ Some place
  holder_here =
      let by = left_held it (inserted less (set.insert less it) it refl) in
      held_holder hands it by.0.0 apart_here by.0.1
      ∙ sym (held_holder whole it by.0.0 apart (part by.0.0 it by.0.1)) ∙ holder

  -- below it both have the same cards
  below : (k : ℕ) → k ≤ height rank → held_below hands suit k ≡ held_below others suit k
  unfolding ranks_below
  below zero few = refl
  below (suc k) few =
      let next : Card = record { suit = suit; rank = rank_from k } in
      let fits : k < 13 = omega (arith, few, height_below rank) in
      let one = same_holder hands others next (λ at. either_way _ _
      (λ held. has_without hands it next at held
      (λ e. omega (arith, few, ap (λ card. height card.rank) e, height_from k fits)))
      (λ held. (without_had hands it next at held).0)) in
      λ i. held_before next (one i) (below k (omega (arith, few)) i)

  -- above it none has any
  none_above : (k : ℕ) → height rank < k → k < 13 → (at : Place) →
      set.contains (hand_of hands at) (record { suit = suit; rank = rank_from k }) ≡ false
  none_above k more few at = false_from_ne_true _ (λ held.
      let next : Card = record { suit = suit; rank = rank_from k } in
      elim (just_inserted less (set.insert less it) it next refl
      (among_left at next held (is_of_own suit (rank_from k)))) [
        | inl e ↦ omega (arith, more, ap (λ card. height card.rank) e, height_from k few)
        | inr in' ↦ omega (arith, more, lower next in', height_from k few)
      ])

  none_of_others : (card : Card) → ((at : Place) → set.contains (hand_of hands at) card ≡ false) → (at : Place) →
      set.contains (hand_of others at) card ≡ false
  none_of_others card none at = false_from_ne_true _ (λ held. true≢false
      (sym (without_had hands it card at held).0 ∙ none at))

  above : (k : ℕ) → height rank < k → k ≤ 13 →
      held_below hands suit k ≡ record { card = it; place = place } ∷ held_below others suit k
  unfolding ranks_below
  above zero more few = absurd (omega (arith, more))
  above (suc k) more few = elim (cases_lt (height rank) k) [
    | inl further ↦
        let next : Card = record { suit = suit; rank = rank_from k } in
        let none = none_above k further (omega (arith, few)) in
        ap (λ h. held_before next h (held_below hands suit k)) (none_holds hands next none)
        ∙ above k further (omega (arith, few))
        ∙ ap (λ rest. record { card = it; place = place } ∷ rest)
        (sym (ap (λ h. held_before next h (held_below others suit k))
        (none_holds others next (none_of_others next none))))
    | inr reached ↦
        let e : height rank ≡ k = omega (arith, more, reached) in
        let gone = none_holds others it (λ at. false_from_ne_true _
        (λ held. (without_had hands it it at held).1 refl)) in
        sym (ap (held_below hands suit) (add-one k))
        ∙ held_below-some hands suit rank k place e (sym holder_here)
        ∙ ap (λ rest. record { card = it; place = place } ∷ rest)
        (below k (omega (arith, e)) ∙ sym (held_below-free others suit rank k e (sym gone))
        ∙ ap (held_below others suit) (add-one k))
  ]

  one_more : holding hands suit ≡ record { card = it; place = place } ∷ holding others suit
  one_more =
      sym (held_below-all hands suit 13 refl) ∙ above 13 (height_below rank) (omega arith)
      ∙ ap (λ rest. record { card = it; place = place } ∷ rest) (held_below-all others suit 13 refl)

  pub raised : (before after : SuitPattern) → after.owners ≡ place_number place + 4 * before.owners →
      after.lengths ≡ place_weight place + before.lengths → IsPatternOf before (holding others suit) →
      IsPatternOf after (holding hands suit)
  raised before after owners lengths is = record {
    owners = owners ∙ ap (λ n. place_number place + 4 * n) is.owners ∙ sym (ap digits one_more);
    lengths = lengths ∙ ap (λ n. place_weight place + n) is.lengths ∙ sym (ap lengths_number one_more);
  }

-- where no card of a set is as high as this one, all are lower
pub all_lower : (cards uppers : Cards) (card : Card) → uppers ≡ set.empty →
    ((other : Card) → set.contains cards other ≡ true → number_in_pack card ≤ number_in_pack other →
    set.contains uppers other ≡ true) →
    (other : Card) → set.contains cards other ≡ true → number_in_pack other < number_in_pack card
all_lower cards uppers card none all other in' =
    elim (cases_lt (number_in_pack other) (number_in_pack card)) [
      | inl less ↦ less
      | inr reaches ↦ absurd (true≢false (sym (all other in' reaches) ∙ ap (λ s. set.contains s other) none
          ∙ set.contains-empty card_cmp other))
    ]

-- what is left with one card more
pub true_raised : (whole : Hands) (less : Remainder) (rank : Rank) (place : Place) (cards : Cards)
    (pattern : SuitPattern) → IsApart whole → IsTrueRemainder whole less →
    holder_of whole (record { suit = less.suit; rank = rank }) ≡ Some place →
    ((other : Card) → set.contains less.cards other ≡ true →
    number_in_pack other < number_in_pack (record { suit = less.suit; rank = rank })) →
    cards ≡ set.insert less.cards (record { suit = less.suit; rank = rank }) →
    pattern.owners ≡ place_number place + 4 * less.pattern.owners →
    pattern.lengths ≡ place_weight place + less.pattern.lengths →
    IsTrueRemainder whole (record { suit = less.suit; cards = cards; pattern = pattern })
true_raised whole less rank place cards pattern apart true_less holder lower cards_are owners lengths hands part same =
    let all = same ∙ cards_are in
    raised whole hands less.suit rank place less.cards apart part holder lower all less.pattern pattern owners lengths
    (true_less (without hands (record { suit = less.suit; rank = rank }))
    (others_part whole hands less.suit rank place less.cards apart part holder lower all)
    (others_left whole hands less.suit rank place less.cards apart part holder lower all))
