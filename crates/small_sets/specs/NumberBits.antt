-- What the model of a set of numbers rests on: a word gives the set of its bits, and the set gives the word back.
use Rattle.std.proofs.Common.{
  ◌≡◌,
  ℕ,
  zero,
  suc,
  ◌+◌,
  ◌-◌,
  ◌*◌,
  ◌^◌,
  ◌%◌,
  ◌<◌,
  Bool,
  cond,
  List,
  [],
  ◌∷◌,
  ◌++◌,
  sum_by,
  nat_eq,
  sym,
  ap,
  ◌∙◌,
  arith,
}
use Rattle.std.specs.Prelude.{filter}
use Rattle.std.specs.List.{range_with_len}
use Rattle.std.specs.Int.{bit_at}
use Rattle.std.proofs.lemmas.List.{map-id}
use Rattle.std.proofs.lemmas.List.Elements.{filter-append}
use Rattle.std.proofs.lemmas.List.FromFn.{map-range_with_len_more}
use Rattle.std.proofs.lemmas.List.Sums.{sum_by-append}
use Rattle.std.proofs.lemmas.Nat.Bits.{bit_at-lt}
use Rattle.std.proofs.Math.Arith.{mod-mul}
use Rattle.std.proofs.Math.Nat.{pow-suc, mod-eq_of_lt, mul_comm, add_comm}
use Rattle.std.proofs.Math.Numerals.{add-one}
use Rattle.std.proofs.Math.Pow.{pow_pos}
use Rattle.small_sets.specs.Numbers.{numbers_that}

-- whether the number's bit is set: the lowest bit stands for 1
abbrev pub has_bit : ℕ → ℕ → Bool
has_bit bits n = nat_eq (bit_at bits (n - 1)) 1

-- the numbers whose bits are set
unfoldable pub numbers_of_bits : ℕ → ℕ → List ℕ
numbers_of_bits most bits = numbers_that most (has_bit bits)

-- the number in which just the bits of these numbers are set
unfoldable pub bits_of_numbers : List ℕ → ℕ
bits_of_numbers numbers = sum_by (λ n. 2 ^ (n - 1)) numbers

-- the numbers from 1 on that pass a test, with one number more
range_more : (n : ℕ) → range_with_len 1 (n + 1) ≡ range_with_len 1 n ++ (n + 1) ∷ []
range_more n =
    sym (map-id (range_with_len 1 (n + 1)))
    ∙ map-range_with_len_more (λ (k : ℕ). k) 1 n (n + 1) (omega arith)
    ∙ ap (λ xs. xs ++ (n + 1) ∷ []) (map-id (range_with_len 1 n))

pub numbers_more : (test : ℕ → Bool) (n : ℕ) →
    numbers_that (n + 1) test ≡ numbers_that n test ++ cond (test (n + 1)) ((n + 1) ∷ []) []
numbers_more test n = ap (filter test) (range_more n) ∙ filter-append test (range_with_len 1 n) ((n + 1) ∷ [])

-- one digit's weight, by a test and by a product
digit_weight : (x n : ℕ) → x < 2 → sum_by (λ k. 2 ^ (k - 1)) (cond (nat_eq x 1) ((n + 1) ∷ []) []) ≡ x * 2 ^ n
digit_weight zero n small = omega arith
digit_weight (suc zero) n small = ap (λ k. 0 + 2 ^ k) last ∙ once (2 ^ n)
  where
    last : n + 1 - 1 ≡ n
    last = omega arith

    once : (m : ℕ) → 0 + m ≡ 1 * m
    once m = omega arith
digit_weight (suc (suc x)) n small = absurd (omega arith)

-- one digit more of a remainder
next_digit : (n bits : ℕ) → bits % 2 ^ n + bit_at bits n * 2 ^ n ≡ bits % 2 ^ suc n
next_digit n bits =
    add_comm _ _ ∙ sym (mod-mul bits (omega arith) (pow_pos n)) ∙ ap (λ x. bits % x)
    (mul_comm 2 (2 ^ n) ∙ sym (pow-suc 2 n))

-- the weights of the bits from the lowest on sum to the remainder
sum_of_bits : (n bits : ℕ) → sum_by (λ k. 2 ^ (k - 1)) (numbers_that n (has_bit bits)) ≡ bits % 2 ^ n
sum_of_bits zero bits = omega arith
sum_of_bits (suc n) bits =
    ap (λ m. sum_by (λ k. 2 ^ (k - 1)) (numbers_that m (has_bit bits))) (sym (add-one n))
    ∙ ap (sum_by (λ k. 2 ^ (k - 1))) (numbers_more (has_bit bits) n)
    ∙ sum_by-append (λ k. 2 ^ (k - 1)) (numbers_that n (has_bit bits)) _
    ∙ (λ i. sum_of_bits n bits i + sum_by (λ k. 2 ^ (k - 1)) (cond (nat_eq (bit_at bits (last i)) 1) ((n + 1) ∷ []) []))
    ∙ ap (λ m. bits % 2 ^ n + m) (digit_weight (bit_at bits n) n (bit_at-lt bits n))
    ∙ next_digit n bits
  where
    last : n + 1 - 1 ≡ n
    last = omega arith

-- a word that has no further bits is given back by the set of its numbers
pub bits_of_numbers_of_bits : (most bits : ℕ) → bits < 2 ^ most → bits_of_numbers (numbers_of_bits most bits) ≡ bits
unfolding numbers_of_bits bits_of_numbers
bits_of_numbers_of_bits most bits below = sum_of_bits most bits ∙ mod-eq_of_lt below
