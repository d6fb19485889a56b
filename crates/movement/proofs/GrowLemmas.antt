-- A set of the numbers that pass a test, one number after another.
use Rattle.std.proofs.Common.{
  ◌≡◌,
  ℕ,
  zero,
  suc,
  ◌+◌,
  ◌<◌,
  ◌≤◌,
  Bool,
  true,
  false,
  cond,
  List,
  [],
  ◌∷◌,
  filter,
  refl,
  sym,
  ap,
  ◌∙◌,
  inl,
  inr,
  arith,
}
use Rattle.std.specs.Prelude.{◌&&◌, ◌||◌, ◌⊎◌, nat_le, nat_eq}
use Rattle.std.specs.List.{range_with_len}
use Rattle.std.proofs.lemmas.Bool.{cases_eq, le-leb, lt-leb, eq-eqb, ne_eqb}
use Rattle.std.proofs.lemmas.Bool.{cases_lt}
use Rattle.small_sets.specs.Numbers.{has_number, numbers_that, with_number}
use Rattle.small_sets.proofs.NumbersLemmas.{same_numbers_that, has_number-numbers_that}

cases_le : (n k : ℕ) → (n ≤ k) ⊎ (k < n)
cases_le n k = elim (cases_lt k n) [ inl above ↦ inr above | inr below ↦ inl below ]

-- the numbers up to one that pass a test
abbrev pub up_to : ℕ → (ℕ → Bool) → ℕ → List ℕ
up_to most test k = numbers_that most (λ n. nat_le n k && test n)

none_pass : (first n : ℕ) (p : ℕ → Bool) → ((k : ℕ) → first ≤ k → p k ≡ false) → filter p (range_with_len first n) ≡ []
none_pass first zero p none = refl
none_pass first (suc n) p none =
    ap (λ b. cond b (first ∷ filter p (range_with_len (first + 1) n)) (filter p (range_with_len (first + 1) n)))
    (none first (omega arith))
    ∙ none_pass (first + 1) n p (λ k from. none k (omega arith))

pub up_to_none : (most : ℕ) (test : ℕ → Bool) → [] ≡ up_to most test 0
up_to_none most test =
    sym (none_pass 1 most (λ n. nat_le n 0 && test n) (λ k from. ap (λ b. b && test k) (lt-leb k 0 (omega arith))))

pub up_to_all : (most : ℕ) (test : ℕ → Bool) → up_to most test most ≡ numbers_that most test
up_to_all most test =
    same_numbers_that most (λ n. nat_le n most && test n) test
    (λ k from to. ap (λ b. b && test k) (le-leb k most to))

-- with one number more, which passes the test or doesn't
pub one_passes : (most : ℕ) (test : ℕ → Bool) (k : ℕ) → test (k + 1) ≡ true →
    with_number most (up_to most test k) (k + 1) ≡ up_to most test (k + 1)
one_passes most test k passes =
    same_numbers_that most (λ n. nat_eq n (k + 1) || has_number (up_to most test k) n)
    (λ n. nat_le n (k + 1) && test n)
    (λ n from to. by n from to)
  where
    by : (n : ℕ) → 1 ≤ n → n ≤ most →
        (nat_eq n (k + 1) || has_number (up_to most test k) n) ≡ (nat_le n (k + 1) && test n)
    by n from to =
        elim (cases_eq n (k + 1)) [
          | inl same ↦
              ap (λ b. b || has_number (up_to most test k) n) (eq-eqb n (k + 1) same)
              ∙ sym (ap test same ∙ passes)
              ∙ sym (ap (λ b. b && test n) (le-leb n (k + 1) (omega arith)))
          | inr other ↦
              ap (λ b. b || has_number (up_to most test k) n) (ne_eqb n (k + 1) other)
              ∙ has_number-numbers_that most (λ n. nat_le n k && test n) n from to
              ∙ ap (λ b. b && test n) (same_bound n other)
        ]
      where
        same_bound : (n : ℕ) → (n ≡ k + 1 → ⊥) → nat_le n k ≡ nat_le n (k + 1)
        same_bound n other = elim (cases_le n k) [
          | inl below ↦ le-leb n k below ∙ sym (le-leb n (k + 1) (omega arith))
          | inr above ↦ lt-leb n k above ∙ sym (lt-leb n (k + 1) (omega arith))
        ]

pub one_fails : (most : ℕ) (test : ℕ → Bool) (k : ℕ) → test (k + 1) ≡ false →
    up_to most test k ≡ up_to most test (k + 1)
one_fails most test k fails =
    same_numbers_that most (λ n. nat_le n k && test n) (λ n. nat_le n (k + 1) && test n) (λ n from to. by n)
  where
    by : (n : ℕ) → (nat_le n k && test n) ≡ (nat_le n (k + 1) && test n)
    by n =
        elim (cases_eq n (k + 1)) [
          | inl same ↦
              ap (λ b. b && test n) (lt-leb n k (omega arith))
              ∙ sym (ap (λ b. b && test n) (le-leb n (k + 1) (omega arith)) ∙ ap test same ∙ fails)
          | inr other ↦ ap (λ b. b && test n) (same_bound n other)
        ]
      where
        same_bound : (n : ℕ) → (n ≡ k + 1 → ⊥) → nat_le n k ≡ nat_le n (k + 1)
        same_bound n other = elim (cases_le n k) [
          | inl below ↦ le-leb n k below ∙ sym (le-leb n (k + 1) (omega arith))
          | inr above ↦ lt-leb n k above ∙ sym (lt-leb n (k + 1) (omega arith))
        ]
