-- Sets of small numbers: what is in them after each call, for any most.
use Rattle.std.proofs.Common.{
  ◌≡◌,
  ◌⊎◌,
  ℕ,
  zero,
  suc,
  ◌+◌,
  ◌<◌,
  ◌≤◌,
  Bool,
  true,
  false,
  cond,
  List,
  ◌∷◌,
  nat_eq,
  refl,
  sym,
  ap,
  ◌∙◌,
  arith,
  inl,
  inr,
}
use Rattle.std.specs.Prelude.{filter, ◌||◌, ◌&&◌, not}
use Rattle.std.specs.List.{range_with_len}
use Rattle.std.proofs.lemmas.Bool.{eqb-true, eq-eqb, ne_eqb, cases_eq, cases_lt, false≢true, or_right, or_left}
use Rattle.std.proofs.lemmas.Map.Views.{any-filter_same}
use Rattle.small_sets.specs.Numbers.{has_number, numbers_that, with_number, without_number, numbers_of_both, IsSetUpTo}

-- a range has the numbers from its first one on, and no others
inside : (first n k : ℕ) → first ≤ k → k < first + n → has_number (range_with_len first n) k ≡ true
inside first zero k from below = absurd (omega arith)
inside first (suc n) k from below =
    elim (cases_eq k first) [
      | inl same ↦ or_left (nat_eq k first) _ (eq-eqb k first same)
      | inr other ↦ or_right (nat_eq k first) _ (inside (first + 1) n k (omega arith) (omega arith))
    ]

below_none : (first n k : ℕ) → k < first → has_number (range_with_len first n) k ≡ false
below_none first zero k below = refl
below_none first (suc n) k below =
    (λ i. ne_eqb k first (λ same. omega arith) i || below_none (first + 1) n k (omega arith) i)

above_none : (first n k : ℕ) → first + n ≤ k → has_number (range_with_len first n) k ≡ false
above_none first zero k above = refl
above_none first (suc n) k above =
    (λ i. ne_eqb k first (λ same. omega arith) i || above_none (first + 1) n k (omega arith) i)

-- two tests that agree on a range keep the same numbers of it
same_filter : (p q : ℕ → Bool) (first n : ℕ) → ((k : ℕ) → first ≤ k → k < first + n → p k ≡ q k) →
    filter p (range_with_len first n) ≡ filter q (range_with_len first n)
same_filter p q first zero same = refl
same_filter p q first (suc n) same =
    let rest = same_filter p q (first + 1) n (λ k from below. same k (omega arith) (omega arith)) in
    λ i. cond (same first (omega arith) (omega arith) i) (first ∷ rest i) (rest i)

-- tests that agree from 1 to the most choose the same numbers
pub same_numbers_that : (most : ℕ) (p q : ℕ → Bool) → ((k : ℕ) → 1 ≤ k → k ≤ most → p k ≡ q k) →
    numbers_that most p ≡ numbers_that most q
same_numbers_that most p q same = same_filter p q 1 most (λ k from below. same k from (omega arith))

-- of the numbers that pass a test, just those that pass it are there
chosen : (most : ℕ) (test : ℕ → Bool) (k : ℕ) →
    has_number (numbers_that most test) k ≡ (test k && has_number (range_with_len 1 most) k)
chosen most test k =
    any-filter_same (nat_eq k) test (test k) (λ n same. ap test (sym (eqb-true k n same))) (range_with_len 1 most)

and_true : (b : Bool) → (b && true) ≡ b
and_true true = refl
and_true false = refl

and_false : (b : Bool) → (b && false) ≡ false
and_false true = refl
and_false false = refl

pub has_number-numbers_that : (most : ℕ) (test : ℕ → Bool) (k : ℕ) → 1 ≤ k → k ≤ most →
    has_number (numbers_that most test) k ≡ test k
has_number-numbers_that most test k from within =
    chosen most test k ∙ ap (λ b. test k && b) (inside 1 most k from (omega arith)) ∙ and_true (test k)

-- and none that is out of range
pub has_none : (most : ℕ) (test : ℕ → Bool) (k : ℕ) → (k < 1) ⊎ (most < k) →
    has_number (numbers_that most test) k ≡ false
has_none most test k (inl below) =
    chosen most test k ∙ ap (λ b. test k && b) (below_none 1 most k below) ∙ and_false (test k)
has_none most test k (inr above) =
    chosen most test k ∙ ap (λ b. test k && b) (above_none 1 most k (omega arith)) ∙ and_false (test k)

-- what is chosen by a test is a set, and so is what each call leaves
pub set_that : (most : ℕ) (test : ℕ → Bool) → IsSetUpTo most (numbers_that most test)
set_that most test =
    same_numbers_that most test (has_number (numbers_that most test))
    (λ k from to. sym (has_number-numbers_that most test k from to))

pub set_with : (most : ℕ) (numbers : List ℕ) (k : ℕ) → IsSetUpTo most (with_number most numbers k)
set_with most numbers k = set_that most (λ n. nat_eq n k || has_number numbers n)

pub set_without : (most : ℕ) (numbers : List ℕ) (k : ℕ) → IsSetUpTo most (without_number most numbers k)
set_without most numbers k = set_that most (λ n. not (nat_eq n k) && has_number numbers n)

pub set_of_both : (most : ℕ) (a b : List ℕ) → IsSetUpTo most (numbers_of_both most a b)
set_of_both most a b = set_that most (λ n. has_number a n || has_number b n)

-- what is in a set is a number from 1 to the most
pub within : (most : ℕ) (numbers : List ℕ) (k : ℕ) → IsSetUpTo most numbers → has_number numbers k ≡ true →
    (1 ≤ k) × (k ≤ most)
within most numbers k is_set held =
    elim (cases_lt k 1) [
      | inl low ↦ absurd (false≢true (gone (inl low)))
      | inr from ↦ elim (cases_lt most k) [
        | inl high ↦ absurd (false≢true (gone (inr high)))
        | inr to ↦ (from, to)
      ]
    ]
  where
    gone : (k < 1) ⊎ (most < k) → false ≡ true
    gone out = sym (ap (λ xs. has_number xs k) is_set ∙ has_none most (has_number numbers) k out) ∙ held

-- two sets with the same numbers are one
pub same_sets : (most : ℕ) (a b : List ℕ) → IsSetUpTo most a → IsSetUpTo most b →
    ((k : ℕ) → 1 ≤ k → k ≤ most → has_number a k ≡ has_number b k) → a ≡ b
same_sets most a b set_a set_b same = set_a ∙ same_numbers_that most (has_number a) (has_number b) same ∙ sym set_b

-- what is in a set after each call
pub has_with_number : (most : ℕ) (numbers : List ℕ) (k n : ℕ) → 1 ≤ n → n ≤ most →
    has_number (with_number most numbers k) n ≡ (nat_eq n k || has_number numbers n)
has_with_number most numbers k n from to =
    has_number-numbers_that most (λ m. nat_eq m k || has_number numbers m) n from to

pub has_without_number : (most : ℕ) (numbers : List ℕ) (k n : ℕ) → 1 ≤ n → n ≤ most →
    has_number (without_number most numbers k) n ≡ (not (nat_eq n k) && has_number numbers n)
has_without_number most numbers k n from to =
    has_number-numbers_that most (λ m. not (nat_eq m k) && has_number numbers m) n from to

pub has_number_of_both : (most : ℕ) (a b : List ℕ) (n : ℕ) → 1 ≤ n → n ≤ most →
    has_number (numbers_of_both most a b) n ≡ (has_number a n || has_number b n)
has_number_of_both most a b n from to = has_number-numbers_that most (λ m. has_number a m || has_number b m) n from to
