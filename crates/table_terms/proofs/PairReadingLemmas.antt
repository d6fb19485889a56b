-- A number of a pair, read from its digits.
use Rattle.std.proofs.Common.{
  ◌≡◌,
  ◌≢◌,
  ℕ,
  zero,
  suc,
  ◌<◌,
  ◌≤◌,
  ◌^◌,
  List,
  length,
  get_or,
  Result,
  Ok,
  Err,
  sym,
  ap,
  ◌∙◌,
  arith,
}
use Rattle.std.specs.Prelude.{IfSome, IfNone}
use Rattle.std.specs.Result.{result_ok}
use Rattle.std.specs.Fmt.{decimal}
use Rattle.std.specs.Int.{IsInRange}
use Rattle.std.specs.Str.Parse.{ParsesUnsigned, AllDigits, digits_value}
use Rattle.std.proofs.lemmas.Fmt.{
  decimal_digit,
  decimal_nonempty,
  first_decimal,
  digits_decimal,
  parse-decimal,
  decimal-digits_value,
}
use Rattle.std.proofs.lemmas.Str.Parse.{IsNumeralModel, numerals_by_value, tells_digits, parse_plain, digit_at}

own : IsNumeralModel (AllDigits 10) (digits_value 10)
own = numerals_by_value (AllDigits 10) tells_digits

-- a number that is not 0 begins with a digit from 1 to 9
pub first_of_number : (n : ℕ) → 1 ≤ n → n ≤ 255 → (0 < length (decimal n)) × IsInRange 49 57 (get_or (decimal n) 0 0)
first_of_number n low high =
    let small : n < 2 ^ 64 = omega arith in
    let some = decimal_nonempty n small in
    let first = first_decimal n (omega arith) small in
    let digit = digit_at (decimal n) 0 (digits_decimal own n small) some in
    (some, (omega arith, digit.1))

one_at_least : (n : ℕ) (bs : List ℕ) → decimal n ≡ bs → 49 ≤ get_or bs 0 0 → 1 ≤ n
one_at_least zero bs is first =
    absurd (omega (arith, ap (λ ds. get_or ds 0 0) is, ap (λ ds. get_or ds 0 0) (decimal_digit 0 (omega arith))))
one_at_least (suc n) bs is first = omega arith

-- what `parse` gives for digits that begin with 1 to 9
pub reads_number : {E : Type 0} (bs : List ℕ) (r : Result ℕ E) → ParsesUnsigned 8 10 bs r → IsInRange 49 57
    (get_or bs 0 0) → IfSome (result_ok r) (λ n. (decimal n ≡ bs) × (1 ≤ n) × (n ≤ 255)) × IfNone (result_ok r)
    ((n : ℕ) → 1 ≤ n → n ≤ 255 → decimal n ≢ bs)
reads_number {E} bs (Ok n) h first =
    let plain = parse_plain own {E = E} 8 bs (Ok n) h (λ e. omega arith) in
    let is = ap decimal plain.1 ∙ decimal-digits_value own bs plain.0.0 plain.0.1 (λ e. absurd (omega arith))
    (omega (arith, plain.0.2)) in
    ((is, one_at_least n bs is first.0, omega (arith, plain.0.2, plain.1)), tt)
reads_number {E} bs (Err e) h first = (
  tt,
  λ n low high is.
      let wrong : ◌≡◌ {A = Result ℕ E} (Err e) (Ok n) = parse-decimal 8 n bs (Err e) (omega arith) (omega arith)
      (sym is) h in
      cc,
)
