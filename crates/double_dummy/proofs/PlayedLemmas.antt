-- A play card by card: which cards are legal, how many are left, and what they cost.
use Rattle.std.proofs.Common.{
  ◌≡◌,
  ℕ,
  ◌+◌,
  ◌≤◌,
  true,
  false,
  List,
  [],
  ◌∷◌,
  ◌++◌,
  length,
  refl,
  sym,
  ap,
  ◌∙◌,
  subst,
  arith,
  suc,
  Some,
  None,
  append_assoc,
}
use Rattle.std.specs.FinSet as set
use Rattle.std.proofs.lemmas.Bool.{cond-true, cond-false, cases_Bool}
use Rattle.std.proofs.Common.{inl, inr, ◌<◌, drop, get_or, append-nil}
use Rattle.std.proofs.Math.Seq.{drop-cons}
use Rattle.std.proofs.Math.ListN.{drop_of_length-le}
use Rattle.cards.specs.declared.card.Card.{Card}
use Rattle.cards.specs.Play.{Position, IsPosition, legal, after, cards_left, table_after}
use Rattle.cards.specs.DoubleDummy.{double_dummy, first_illegal, cost, cost_list}
use Rattle.double_dummy_laws.proofs.NeighbourLemmas.{one_less_after}
use Rattle.double_dummy_laws.proofs.TakingLemmas.{tricks_bound, under_way_short}

-- a legal card is none
pub past_legal : (number : ℕ) (p : Position) (card : Card) (play : List Card) → set.contains (legal p) card ≡ true →
    first_illegal number p (card ∷ play) ≡ first_illegal (suc number) (after p card) play
past_legal number p card play may = cond-true _ _ _ may

pub at_illegal : (number : ℕ) (p : Position) (card : Card) (play : List Card) → set.contains (legal p) card ≡ false →
    first_illegal number p (card ∷ play) ≡ Some number
at_illegal number p card play not_legal = cond-false _ _ _ not_legal

-- where no card is illegal, the first is legal
pub is_legal : (number : ℕ) (p : Position) (card : Card) (play : List Card) →
    first_illegal number p (card ∷ play) ≡ None → set.contains (legal p) card ≡ true
is_legal number p card play none =
    elim (cases_Bool (set.contains (legal p) card)) [
      | inl may ↦ may
      | inr not_legal ↦ absurd (some_none number (sym (at_illegal number p card play not_legal) ∙ none))
    ]
  where
    some_none : (number : ℕ) → Some number ≡ None → ⊥
    some_none number e = cc

one_more : (table : List Card) (card : Card) → length (table_after table card) ≤ suc (length table)
one_more [] card = omega arith
one_more (a ∷ []) card = omega arith
one_more (a ∷ b ∷ []) card = omega arith
one_more (a ∷ b ∷ c ∷ rest) card = omega arith

-- no more cards are in play after a card
pub few_after : (p : Position) (card : Card) → IsPosition p → set.contains (legal p) card ≡ true →
    cards_left p + length p.table ≤ 52 → cards_left (after p card) + length (after p card).table ≤ 52
few_after p card valid may few = omega (arith, one_less_after p card valid may, one_more p.table card)

-- so no more than thirteen tricks are
pub thirteen : (p : Position) → IsPosition p → cards_left p + length p.table ≤ 52 → double_dummy p ≤ 13
thirteen p valid few = omega (arith, tricks_bound (cards_left p) p (under_way_short p.hands p.table valid.trick))

-- the costs so far, with one more
pub one_cost_more : (all numbers more : List ℕ) (p q : Position) (card : Card) (play : List Card) (number : ℕ) →
    numbers ++ cost_list p (card ∷ play) ≡ all → number ≡ cost p card → q ≡ after p card →
    more ≡ numbers ++ number ∷ [] → more ++ cost_list q play ≡ all
one_cost_more all numbers more p q card play number is cost_is next more_is =
    (λ i. more_is i ++ cost_list (next i) play)
    ∙ append_assoc numbers (number ∷ []) (cost_list (after p card) play)
    ∙ ap (λ n. numbers ++ n ∷ cost_list (after p card) play) cost_is
    ∙ is

-- nor are they after a card
pub thirteen_next : (p q : Position) (card : Card) → q ≡ after p card → IsPosition p →
    set.contains (legal p) card ≡ true →
    cards_left p + length p.table ≤ 52 → IsPosition q → double_dummy q ≤ 13
thirteen_next p q card next valid may few valid' =
    thirteen q valid' (subst (λ r. cards_left r + length r.table ≤ 52) (sym next) (few_after p card valid may few))

-- a play from one card on
pub from_card : (play : List Card) (i j : ℕ) (d : Card) → j ≡ suc i → i < length play →
    drop i play ≡ get_or play i d ∷ drop j play
from_card play i j d next within = drop-cons play i d within ∙ ap (λ k. get_or play i d ∷ drop k play) (sym next)

pub head_legal : (number : ℕ) (p : Position) (play : List Card) (i : ℕ) (d : Card) → i < length play →
    first_illegal number p (drop i play) ≡ None → set.contains (legal p) (get_or play i d) ≡ true
head_legal number p play i d within none =
    is_legal number p (get_or play i d) (drop (suc i) play)
    (sym (ap (first_illegal number p) (from_card play i (suc i) d refl within)) ∙ none)

-- where the card is legal, the others are tested from the position after it
pub past_card : (number more : ℕ) (p q : Position) (play : List Card) (i j : ℕ) (d : Card) → more ≡ suc number →
    j ≡ suc i →
    i < length play → set.contains (legal p) (get_or play i d) ≡ true → q ≡ after p (get_or play i d) →
    first_illegal number p (drop i play) ≡ first_illegal more q (drop j play)
past_card number more p q play i j d one_more next within may moved =
    ap (first_illegal number p) (from_card play i j d next within)
    ∙ past_legal number p (get_or play i d) (drop j play) may
    ∙ (λ k. first_illegal (sym one_more k) (sym moved k) (drop j play))

pub at_card : (number : ℕ) (p : Position) (play : List Card) (i : ℕ) (d : Card) → i < length play →
    set.contains (legal p) (get_or play i d) ≡ false → first_illegal number p (drop i play) ≡ Some number
at_card number p play i d within not_legal =
    ap (first_illegal number p) (from_card play i (suc i) d refl within)
    ∙ at_illegal number p (get_or play i d) (drop (suc i) play) not_legal

-- at the end of a play
pub no_card : (play : List Card) (i : ℕ) → length play ≤ i → drop i play ≡ []
no_card play i over = drop_of_length-le play over

pub all_costs : (all numbers : List ℕ) (p : Position) (play : List Card) (i : ℕ) → length play ≤ i →
    numbers ++ cost_list p (drop i play) ≡ all → numbers ≡ all
all_costs all numbers p play i over is =
    sym (append-nil numbers) ∙ ap (λ rest. numbers ++ cost_list p rest) (sym (no_card play i over)) ∙ is
