-- Sets of cards: what an inserted card, a removed one, a union and a difference have.
use Rattle.std.proofs.Common.{◌≡◌, ◌≢◌, true, ◌⊎◌, refl, sym, ap, ◌∙◌, inl, inr}
use Rattle.std.specs.Prelude.{Bool, false, not, ◌&&◌}
use Rattle.std.proofs.lemmas.Bool.{or_cases, or_left, or_right, and_parts, true≢false, not-true}
use Rattle.cards.specs.declared.card.Card.{Card}
use Rattle.cards.specs.Cards.{Cards}
use Rattle.cards.specs.CardBits.{card_cmp_total, tied_is_equal}
use Rattle.std.specs.FinSet as set
use Rattle.double_dummy_laws.proofs.HandLemmas.{tied}

pub just_inserted : (s t : Cards) (card other : Card) → t ≡ set.insert s card → set.contains t other ≡ true →
    (other ≡ card) ⊎ (set.contains s other ≡ true)
just_inserted s t card other e held =
    elim (or_cases _ _ (sym (ap (λ u. set.contains u other) e ∙ set.contains-insert card_cmp_total s card other)
    ∙ held)) [
      | inl same ↦ inl (tied_is_equal other card same)
      | inr old ↦ inr old
    ]

pub inserted : (s t : Cards) (card : Card) → t ≡ set.insert s card → set.contains t card ≡ true
inserted s t card e = ap (λ u. set.contains u card) e ∙ set.contains-insert card_cmp_total s card card
    ∙ or_left _ _ (tied card card refl)

pub still_inserted : (s t : Cards) (card other : Card) → t ≡ set.insert s card → set.contains s other ≡ true →
    set.contains t other ≡ true
still_inserted s t card other e held =
    ap (λ u. set.contains u other) e ∙ set.contains-insert card_cmp_total s card other ∙ or_right _ _ held

-- what a set that lost a card had
pub had : (s t : Cards) (card other : Card) → t ≡ set.remove s card → set.contains t other ≡ true →
    (set.contains s other ≡ true) × (other ≢ card)
had s t card other e held =
    let parts = and_parts _ _ (sym (ap (λ u. set.contains u other) e ∙ set.contains-remove card_cmp_total s card other)
    ∙ held) in
    (parts.1, λ same. true≢false (sym (tied other card same) ∙ not-true _ parts.0))

-- the cards of one set that another has not
pub in_difference : (s t u : Cards) → u ≡ set.difference s t → (card : Card) →
    set.contains u card ≡ (set.contains s card && not (set.contains t card))
in_difference s t u e card = ap (λ v. set.contains v card) e ∙ set.contains-difference card_cmp_total s t card

-- a union has the cards of both sets
pub in_first : (s t u : Cards) → u ≡ set.union s t → (card : Card) → set.contains s card ≡ true →
    set.contains u card ≡ true
in_first s t u e card held = ap (λ v. set.contains v card) e ∙ set.contains-union card_cmp_total s t card
    ∙ or_left _ _ held

pub in_second : (s t u : Cards) → u ≡ set.union s t → (card : Card) → set.contains t card ≡ true →
    set.contains u card ≡ true
in_second s t u e card held = ap (λ v. set.contains v card) e ∙ set.contains-union card_cmp_total s t card
    ∙ or_right _ _ held

-- what is left of a hand
pub still_held : (s t u : Cards) → u ≡ set.difference s t → (card : Card) → set.contains u card ≡ true →
    set.contains s card ≡ true
still_held s t u e card held = (and_parts _ _ (sym (in_difference s t u e card) ∙ held)).0

both_or_neither : (a b : Bool) → (a && not (a && not b)) ≡ (a && b)
both_or_neither true true = refl
both_or_neither true false = refl
both_or_neither false b = refl

-- the cards that are in both sets
pub in_common : (s t rest u : Cards) → rest ≡ set.difference s t → u ≡ set.difference s rest → (card : Card) →
    set.contains u card ≡ (set.contains s card && set.contains t card)
in_common s t rest u rest_is u_is card =
    in_difference s rest u u_is card
    ∙ ap (λ b. set.contains s card && not b) (in_difference s t rest rest_is card)
    ∙ both_or_neither (set.contains s card) (set.contains t card)
