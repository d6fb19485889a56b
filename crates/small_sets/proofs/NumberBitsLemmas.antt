-- What a word's operations do to the set of numbers that it stands for, for any width and any most.
use Rattle.std.proofs.Common.{
  ◌≡◌,
  ◌⊎◌,
  ℕ,
  zero,
  suc,
  min,
  max,
  ◌+◌,
  ◌-◌,
  ◌*◌,
  ◌^◌,
  ◌%◌,
  ◌<◌,
  ◌≤◌,
  false,
  [],
  nat_eq,
  bit_or,
  bit_and,
  refl,
  sym,
  ap,
  ◌∙◌,
  arith,
  inl,
  inr,
}
use Rattle.std.specs.Prelude.{◌||◌, ◌&&◌, not, filter}
use Rattle.std.specs.List.{range_with_len}
use Rattle.std.specs.Cmp.Lexicographic.{pointwise, pointwise_decides}
use Rattle.std.specs.Int.{Width, bit_at, bit_not}
use mir.Val.{bits}
use Rattle.std.proofs.lemmas.Bool.{eqb-true, eq-eqb, ne_eqb, cases_eq, cases_lt}
use Rattle.std.proofs.lemmas.Bool.Decides.{same_from_decides, Decides-eqb, Decides-like}
use Rattle.std.proofs.lemmas.Nat.{or_lt, one_shl, and_le_l}
use Rattle.std.proofs.lemmas.Nat.Bits.{
  bit_at-lt,
  bit_at-zero,
  bit_at_and,
  bit_at_or,
  bit_at_not,
  bit_at_above,
  bit_at_set_same,
  bit_at_set_other,
  bit_at_clear_same,
  bit_at_clear_other,
  same_from_bits,
}
use Rattle.std.proofs.Math.Pow.{pow-lt}
use Rattle.small_sets.specs.Numbers.{has_number, with_number, without_number, numbers_of_both, IsSetUpTo, AreAmong}
use Rattle.small_sets.specs.NumberBits.{has_bit, numbers_of_bits, bits_of_numbers, bits_of_numbers_of_bits}
use Rattle.small_sets.proofs.NumbersLemmas.{same_numbers_that, has_number-numbers_that, has_none, set_that, within}

-- a number's bit says whether it is among them
pub has_number-numbers_of_bits : (most word k : ℕ) → 1 ≤ k → k ≤ most →
    has_number (numbers_of_bits most word) k ≡ has_bit word k
unfolding numbers_of_bits
has_number-numbers_of_bits most word k from to = has_number-numbers_that most (has_bit word) k from to

pub has_none_of_bits : (most word k : ℕ) → (k < 1) ⊎ (most < k) → has_number (numbers_of_bits most word) k ≡ false
unfolding numbers_of_bits
has_none_of_bits most word k out = has_none most (has_bit word) k out

pub set_of_bits : (most word : ℕ) → IsSetUpTo most (numbers_of_bits most word)
unfolding numbers_of_bits
set_of_bits most word = set_that most (has_bit word)

-- no bit, no number
pub none_of_no_bits : (most : ℕ) → numbers_of_bits most 0 ≡ []
unfolding numbers_of_bits
none_of_no_bits most =
    same_numbers_that most (has_bit 0) (λ _. false) (λ k from to. ap (λ n. nat_eq n 1) (bit_at-zero (k - 1)))
    ∙ nothing_passes 1 most
  where
    nothing_passes : (first n : ℕ) → filter (λ _. false) (range_with_len first n) ≡ []
    nothing_passes first zero = refl
    nothing_passes first (suc n) = nothing_passes (first + 1) n

-- a bit that is set is there beside the others
set_bit : (w : Width) (word k j : ℕ) → k < bits w →
    nat_eq (bit_at (bit_or word (1 * 2 ^ k % 2 ^ bits w)) j) 1 ≡ (nat_eq j k || nat_eq (bit_at word j) 1)
set_bit w word k j below =
    elim (cases_eq j k) [
      | inl same ↦
          ap (λ x. nat_eq x 1)
          (ap (bit_at (bit_or word (1 * 2 ^ k % 2 ^ bits w))) same ∙ bit_at_set_same w word k below)
          ∙ sym (ap (λ b. b || nat_eq (bit_at word j) 1) (eq-eqb j k same))
      | inr other ↦
          ap (λ x. nat_eq x 1) (bit_at_set_other w word k below j other)
          ∙ sym (ap (λ b. b || nat_eq (bit_at word j) 1) (ne_eqb j k other))
    ]

-- a bit that is cleared is gone, and the others stay
clear_bit : (w : Width) (word k j : ℕ) → k < bits w → j < bits w →
    nat_eq (bit_at (bit_and word (bit_not w (1 * 2 ^ k % 2 ^ bits w))) j) 1
    ≡ (not (nat_eq j k) && nat_eq (bit_at word j) 1)
clear_bit w word k j below also_below =
    elim (cases_eq j k) [
      | inl same ↦
          ap (λ x. nat_eq x 1)
          (ap (bit_at (bit_and word (bit_not w (1 * 2 ^ k % 2 ^ bits w)))) same ∙ bit_at_clear_same w word k below)
          ∙ sym (ap (λ b. not b && nat_eq (bit_at word j) 1) (eq-eqb j k same))
      | inr other ↦
          ap (λ x. nat_eq x 1) (bit_at_clear_other w word k below j also_below other)
          ∙ sym (ap (λ b. not b && nat_eq (bit_at word j) 1) (ne_eqb j k other))
    ]

-- the test does not see that both numbers are one less
one_less : (n k : ℕ) → 1 ≤ n → 1 ≤ k → nat_eq (n - 1) (k - 1) ≡ nat_eq n k
one_less n k from_n from_k =
    elim (cases_eq n k) [
      | inl same ↦ eq-eqb (n - 1) (k - 1) (omega arith) ∙ sym (eq-eqb n k same)
      | inr other ↦ ne_eqb (n - 1) (k - 1) (λ same. other (omega arith)) ∙ sym (ne_eqb n k other)
    ]

-- a bit that is set adds its number
pub numbers_of_bits-set : (w : Width) (most word k : ℕ) → most ≤ bits w → 1 ≤ k → k ≤ most →
    numbers_of_bits most (bit_or word (1 * 2 ^ (k - 1) % 2 ^ bits w)) ≡ with_number most (numbers_of_bits most word) k
unfolding numbers_of_bits
numbers_of_bits-set w most word k wide from to = same_numbers_that most _ _ (λ n low high.
    set_bit w word (k - 1) (n - 1) (omega arith)
    ∙ (λ i. one_less n k low from i || sym (has_number-numbers_that most (has_bit word) n low high) i))

-- a bit that is cleared takes its number away
pub numbers_of_bits-clear : (w : Width) (most word k : ℕ) → most ≤ bits w → 1 ≤ k → k ≤ most →
    numbers_of_bits most (bit_and word (bit_not w (1 * 2 ^ (k - 1) % 2 ^ bits w)))
    ≡ without_number most (numbers_of_bits most word) k
unfolding numbers_of_bits
numbers_of_bits-clear w most word k wide from to = same_numbers_that most _ _ (λ n low high.
    clear_bit w word (k - 1) (n - 1) (omega arith) (omega arith)
    ∙ (λ i. not (one_less n k low from i) && sym (has_number-numbers_that most (has_bit word) n low high) i))

-- the bits of two words are the numbers of two sets
larger_flag : (x y : ℕ) → x < 2 → y < 2 → nat_eq (max x y) 1 ≡ (nat_eq x 1 || nat_eq y 1)
larger_flag zero zero _ _ = refl
larger_flag zero (suc zero) _ _ = refl
larger_flag (suc zero) zero _ _ = refl
larger_flag (suc zero) (suc zero) _ _ = refl
larger_flag (suc (suc x)) y below _ = absurd (omega (arith, below))
larger_flag x (suc (suc y)) _ below = absurd (omega (arith, below))

pub numbers_of_bits-or : (most a b : ℕ) →
    numbers_of_bits most (bit_or a b) ≡ numbers_of_both most (numbers_of_bits most a) (numbers_of_bits most b)
unfolding numbers_of_bits
numbers_of_bits-or most a b = same_numbers_that most _ _ (λ n low high.
    ap (λ x. nat_eq x 1) (bit_at_or a b (n - 1))
    ∙ larger_flag _ _ (bit_at-lt a (n - 1)) (bit_at-lt b (n - 1))
    ∙ (λ i. sym (has_number-numbers_that most (has_bit a) n low high) i || sym
    (has_number-numbers_that most (has_bit b) n low high) i))

-- a word keeps to the bits of the set, whatever is done to it
pub set_below : (w : Width) (most word k : ℕ) → most ≤ bits w → 1 ≤ k → k ≤ most → word < 2 ^ most →
    bit_or word (1 * 2 ^ (k - 1) % 2 ^ bits w) < 2 ^ most
set_below w most word k wide from to below =
    let weight : 1 * 2 ^ (k - 1) % 2 ^ bits w ≡ 2 ^ (k - 1) = one_shl (k - 1) (bits w) (omega arith) in
    or_lt most word _ below (rw weight (pow-lt (omega arith)))

pub clear_below : (most word mask : ℕ) → word < 2 ^ most → bit_and word mask < 2 ^ most
clear_below most word mask below = let less = and_le_l word mask in omega (arith, less, below)

-- words are equal where their sets are
pub same_words : (most a b : ℕ) → a < 2 ^ most → b < 2 ^ most →
    nat_eq a b ≡ pointwise nat_eq (numbers_of_bits most a) (numbers_of_bits most b)
same_words most a b below_a below_b =
    same_from_decides (nat_eq a b) (pointwise nat_eq (numbers_of_bits most a) (numbers_of_bits most b))
    (Decides-eqb a b)
    (Decides-like _
    (λ same. sym (bits_of_numbers_of_bits most a below_a) ∙ ap bits_of_numbers same ∙ bits_of_numbers_of_bits most b
    below_b)
    (λ same. ap (numbers_of_bits most) same)
    (pointwise_decides Decides-eqb (numbers_of_bits most a) (numbers_of_bits most b)))

-- no bit is set beside those of another word exactly where each number is among the other's
pub among_from_bits : (w : Width) (most a b : ℕ) → most ≤ bits w → b < 2 ^ bits w →
    bit_and a (bit_not w b) ≡ 0 → AreAmong (numbers_of_bits most a) (numbers_of_bits most b)
among_from_bits w most a b wide small none k held =
    let range = within most (numbers_of_bits most a) k (set_of_bits most a) held in
    let one : bit_at a (k - 1) ≡ 1 = eqb-true _ _ (sym (has_number-numbers_of_bits most a k range.0 range.1) ∙ held) in
    let clear : min (bit_at a (k - 1)) (bit_at (bit_not w b) (k - 1)) ≡ 0 =
    sym (bit_at_and a (bit_not w b) (k - 1)) ∙ ap (λ n. bit_at n (k - 1)) none ∙ bit_at-zero (k - 1) in
    let other : bit_at (bit_not w b) (k - 1) ≡ 1 - bit_at b (k - 1) = bit_at_not w b (k - 1) small
    (omega (arith, range.0, range.1)) in
    let also : bit_at b (k - 1) ≡ 1 = omega (arith, bit_at-lt b (k - 1)) in
    has_number-numbers_of_bits most b k range.0 range.1 ∙ eq-eqb _ _ also

pub bits_from_among : (w : Width) (most a b : ℕ) → most ≤ bits w → a < 2 ^ most → b < 2 ^ bits w →
    AreAmong (numbers_of_bits most a) (numbers_of_bits most b) → bit_and a (bit_not w b) ≡ 0
bits_from_among w most a b wide below small among =
    same_from_bits _ 0 (λ t. bit_at_and a (bit_not w b) t ∙ none t ∙ sym (bit_at-zero t))
  where
    last : (t : ℕ) → t + 1 - 1 ≡ t
    last t = omega arith

    none : (t : ℕ) → min (bit_at a t) (bit_at (bit_not w b) t) ≡ 0
    none t =
        elim (cases_lt t most) [
          | inr above ↦ let zero_bit : bit_at a t ≡ 0 = bit_at_above a most t below above in omega arith
          | inl inside ↦
              elim (cases_eq (bit_at a t) 1) [
                | inr clear ↦ omega (arith, bit_at-lt a t)
                | inl one ↦
                    let here = ap (λ k. nat_eq (bit_at a k) 1) (last t) ∙ eq-eqb _ _ one in
                    let held = has_number-numbers_of_bits most a (t + 1) (omega arith) (omega arith) ∙ here in
                    let there = sym (has_number-numbers_of_bits most b (t + 1) (omega arith) (omega arith)) ∙ among
                    (t + 1) held in
                    let also : bit_at b t ≡ 1 = eqb-true _ _ (sym (ap (λ k. nat_eq (bit_at b k) 1) (last t)) ∙ there) in
                    let other : bit_at (bit_not w b) t ≡ 1 - bit_at b t = bit_at_not w b t small (omega arith) in
                    omega arith
              ]
        ]
