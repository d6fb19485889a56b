-- A position is worth what its best card is.
use Rattle.std.proofs.Common.{◌≡◌, ℕ, ◌<◌, ◌≤◌, ◌-◌, true, suc, map, sym, ap, ◌∙◌, subst, arith}
use Rattle.std.specs.FinSet as set
use Rattle.cards.specs.declared.card.Card.{Card}
use Rattle.table_terms.specs.declared.side.Side.TheVariants.{NorthSouth, EastWest}
use Rattle.table_terms.specs.Place.{side_of}
use Rattle.cards.specs.Play.{Position, IsPosition, to_play, legal, after, cards_left}
use Rattle.cards.specs.DoubleDummy.{best, tricks, double_dummy, worth}
use Rattle.double_dummy_laws.proofs.BestLemmas.{same_best, north_south_bound, east_west_bound}
use Rattle.double_dummy_laws.proofs.HandLemmas.{among_items, items_among}
use Rattle.double_dummy_laws.proofs.NeighbourLemmas.{one_less_after}
use Rattle.double_dummy_laws.proofs.RenamingLemmas.{worth_in}

-- with one card more than so many
best_in : (n : ℕ) (p : Position) → cards_left p ≡ suc n →
    double_dummy p ≡ best (side_of (to_play p)) (map (worth_in n p) (set.items (legal p)))
unfolding tricks
best_in n p left = ap (λ k. tricks k p) left

pub best_card : (p : Position) → IsPosition p → 0 < cards_left p →
    double_dummy p ≡ best (side_of (to_play p)) (map (worth p) (set.items (legal p)))
best_card p valid some =
    let n : ℕ = cards_left p - 1 in
    let left : cards_left p ≡ suc n = omega arith in
    let same : (card : Card) → set.contains (legal p) card ≡ true → cards_left (after p card) ≡ n =
    λ card may. omega (arith, one_less_after p card valid may, left) in
    best_in n p left
    ∙ same_best (side_of (to_play p)) (worth p) (worth_in n p) (set.items (legal p)) (set.items (legal p))
    (λ card among. (card, among, ap (λ k. worth_in k p card) (sym (same card (items_among (legal p) card among)))))
    (λ card among. (card, among, ap (λ k. worth_in k p card) (same card (items_among (legal p) card among))))

pub nothing_left : (p : Position) → cards_left p ≡ 0 → double_dummy p ≡ 0
unfolding tricks
nothing_left p none = ap (λ k. tricks k p) none

pub north_south_gains_nothing : (p : Position) (card : Card) → IsPosition p → set.contains (legal p) card ≡ true →
    side_of (to_play p) ≡ NorthSouth → worth p card ≤ double_dummy p
north_south_gains_nothing p card valid may side =
    let n = cards_left (after p card) in
    let is = best_in n p (one_less_after p card valid may) in
    let bound = north_south_bound (worth_in n p) card (set.items (legal p)) (among_items (legal p) card may) in
    subst (λ k. worth p card ≤ k) (sym (is ∙ ap (λ s. best s (map (worth_in n p) (set.items (legal p)))) side)) bound

pub east_west_gains_nothing : (p : Position) (card : Card) → IsPosition p → set.contains (legal p) card ≡ true →
    side_of (to_play p) ≡ EastWest → double_dummy p ≤ worth p card
east_west_gains_nothing p card valid may side =
    let n = cards_left (after p card) in
    let is = best_in n p (one_less_after p card valid may) in
    let bound = east_west_bound (worth_in n p) card (set.items (legal p)) (among_items (legal p) card may) in
    subst (λ k. k ≤ worth p card) (sym (is ∙ ap (λ s. best s (map (worth_in n p) (set.items (legal p)))) side)) bound
