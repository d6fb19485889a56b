-- Lists of holders as numbers to base 4.
use Rattle.std.proofs.Common.{
  ◌≡◌,
  ℕ,
  ◌+◌,
  ◌*◌,
  ◌/◌,
  ◌%◌,
  ◌^◌,
  ◌<◌,
  ◌≤◌,
  List,
  [],
  ◌∷◌,
  length,
  refl,
  sym,
  ap,
  ◌∙◌,
  arith,
  zero,
  suc,
  lit<,
}
use Rattle.std.proofs.Math.Arith.{mod-mul}
use Rattle.std.proofs.Math.Nat.{pow-suc, mul_comm}
use Rattle.table_terms.specs.declared.place.Place.{Place}
use Rattle.table_terms.specs.declared.place.Place.TheVariants.{North, East, South, West}
use Rattle.table_terms.specs.Place.{place_number}
use Rattle.position_patterns.specs.Tops.{digits}
use Rattle.double_dummy_laws.specs.Pattern.{HaveSameTops, Held}

pub digit_below : (place : Place) → place_number place < 4
digit_below North = omega arith
digit_below East = omega arith
digit_below South = omega arith
digit_below West = omega arith

same_digit : (p q : Place) → place_number p ≡ place_number q → p ≡ q
same_digit North North e = refl
same_digit East East e = refl
same_digit South South e = refl
same_digit West West e = refl
same_digit North East e = absurd (omega arith)
same_digit North South e = absurd (omega arith)
same_digit North West e = absurd (omega arith)
same_digit East North e = absurd (omega arith)
same_digit East South e = absurd (omega arith)
same_digit East West e = absurd (omega arith)
same_digit South North e = absurd (omega arith)
same_digit South East e = absurd (omega arith)
same_digit South West e = absurd (omega arith)
same_digit West North e = absurd (omega arith)
same_digit West East e = absurd (omega arith)
same_digit West South e = absurd (omega arith)

pow_some : (k : ℕ) → 0 < 4 ^ k
pow_some zero = lit< tt
pow_some (suc k) = omega (arith, pow-suc 4 k, pow_some k)

-- the lowest digit, and the others
quarter : (a m : ℕ) → a < 4 → (a + 4 * m) / 4 ≡ m
quarter a m small = omega arith

remainder : (a m : ℕ) → a < 4 → (a + 4 * m) % 4 ≡ a
remainder a m small = omega arith

low_digit : (a m b : ℕ) → a < 4 → 0 < b → (a + 4 * m) % (4 * b) ≡ a + 4 * (m % b)
low_digit a m b small some =
    ap (λ c. (a + 4 * m) % c) (mul_comm 4 b)
    ∙ mod-mul (a + 4 * m) {m = b} {c = 4} some (omega arith)
    ∙ (λ i. (quarter a m small i % b) * 4 + remainder a m small i)
    ∙ omega arith

pub tops_from_digits : (k : ℕ) (xs ys : List Held) → k ≤ length xs → k ≤ length ys →
    digits xs % 4 ^ k ≡ digits ys % 4 ^ k → HaveSameTops k xs ys
tops_from_digits zero xs ys long long' e = tt
tops_from_digits (suc k) [] ys long long' e = absurd (omega arith)
tops_from_digits (suc k) (x ∷ xs) [] long long' e = absurd (omega arith)
tops_from_digits (suc k) (x ∷ xs) (y ∷ ys) long long' e =
    let shape : 4 ^ suc k ≡ 4 * 4 ^ k = pow-suc 4 k ∙ mul_comm (4 ^ k) 4 in
    let one : (place_number x.place + 4 * digits xs) % (4 * 4 ^ k) ≡ place_number x.place + 4 * (digits xs % 4 ^ k) =
    low_digit _ _ (4 ^ k) (digit_below x.place) (pow_some k) in
    let two : (place_number y.place + 4 * digits ys) % (4 * 4 ^ k) ≡ place_number y.place + 4 * (digits ys % 4 ^ k) =
    low_digit _ _ (4 ^ k) (digit_below y.place) (pow_some k) in
    let both : place_number x.place + 4 * (digits xs % 4 ^ k) ≡ place_number y.place + 4 * (digits ys % 4 ^ k) =
    sym one ∙ ap (λ b. (place_number x.place + 4 * digits xs) % b) (sym shape) ∙ e
    ∙ ap (λ b. (place_number y.place + 4 * digits ys) % b) shape ∙ two in
    let small = digit_below x.place in
    let small' = digit_below y.place in
    (same_digit x.place y.place (omega arith), tops_from_digits k xs ys (omega arith) (omega arith) (omega arith))
