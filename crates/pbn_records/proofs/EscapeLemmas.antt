-- No form of a used value has a `"` or a `\`: so what is said of a value as written is said of it as read.
use Rattle.std.proofs.Common.{◌≡◌, ℕ, Bool, true, false, ◌⊎◌, inl, inr, List, [], ◌∷◌, refl, sym, ap, subst, ◌∙◌, arith}
use Rattle.std.specs.Prelude.{Some, None, not, ◌||◌, ◌&&◌, ◌==◌, nat_le, if◌then◌else◌}
use Rattle.std.specs.List.{list_all}
use Rattle.std.proofs.lemmas.Bool.{true≢false, cases_Bool, and_parts}
use Rattle.pbn_pieces.specs.Pieces.{is_escape}
use Rattle.pbn_records.specs.Values.{read_value, is_inherited_form}
use Rattle.pbn_records.specs.MarkValue.{is_open}
use Rattle.pbn_pieces.specs.Pieces.{is_digit}
use Rattle.pbn_records.specs.Boards.{are_digits, decimal_number, board_number}

-- neither `"` nor `\`
abbrev pub is_free : ℕ → Bool
is_free byte = not (byte == 34 || byte == 92)

abbrev pub are_free : List ℕ → Bool
are_free bytes = list_all is_free bytes

escape_is_not_free : (byte next : ℕ) → is_escape byte next ≡ true → (is_free byte ≡ false) × (is_free next ≡ false)
escape_is_not_free byte next e = (grind (arith, e), grind (arith, e))

false_and : (one other : Bool) → one ≡ false → (one && other) ≡ false
false_and one other e = ap (λ (b : Bool). b && other) e

and_false : (one other : Bool) → other ≡ false → (one && other) ≡ false
and_false true other e = e
and_false false other e = refl

abbrev pub IsSameOrNeither : List ℕ → Type 0
IsSameOrNeither written = (read_value written ≡ written) ⊎
    ((are_free written ≡ false) × (are_free (read_value written) ≡ false))

reads : (byte next : ℕ) (bytes : List ℕ) (b : Bool) → is_escape byte next ≡ b →
    read_value (byte ∷ next ∷ bytes) ≡ (if b then next ∷ read_value bytes else byte ∷ read_value (next ∷ bytes))
reads byte next bytes b e = ap (λ (b : Bool). if b then next ∷ read_value bytes else byte ∷ read_value (next ∷ bytes)) e

escape_neither : (byte next : ℕ) (bytes : List ℕ) → is_escape byte next ≡ true → IsSameOrNeither (byte ∷ next ∷ bytes)
escape_neither byte next bytes escape =
    let free = escape_is_not_free byte next escape in
    inr (
      false_and (is_free byte) (are_free (next ∷ bytes)) free.0,
      ap are_free (reads byte next bytes true escape) ∙ false_and (is_free next) (are_free (read_value bytes)) free.1,
    )

letter_same : (byte next : ℕ) (bytes : List ℕ) → is_escape byte next ≡ false → IsSameOrNeither (next ∷ bytes) →
    IsSameOrNeither (byte ∷ next ∷ bytes)
letter_same byte next bytes plain (inl same) = inl (reads byte next bytes false plain ∙ ap (λ rest. byte ∷ rest) same)
letter_same byte next bytes plain (inr neither) =
    inr (
      and_false (is_free byte) (are_free (next ∷ bytes)) neither.0,
      ap are_free (reads byte next bytes false plain) ∙ and_false (is_free byte) (are_free (read_value (next ∷ bytes)))
          neither.1,
    )

pub same_or_neither : (written : List ℕ) → IsSameOrNeither written
same_or_neither [] = inl refl
same_or_neither (byte ∷ []) = inl refl
same_or_neither (byte ∷ next ∷ bytes) =
    elim (cases_Bool (is_escape byte next)) [
      | inl escape ↦ escape_neither byte next bytes escape
      | inr plain ↦ letter_same byte next bytes plain (same_or_neither (next ∷ bytes))
    ]

-- what is true of free values alone is true of a value as written exactly where it is true of it as read
pub same_fact : (P : List ℕ → Type 0) → ((value : List ℕ) → P value → are_free value ≡ true) → (written : List ℕ) →
    (P written → P (read_value written)) × (P (read_value written) → P written)
same_fact P free written = by_case (same_or_neither written)
  where
    by_case : IsSameOrNeither written → (P written → P (read_value written)) × (P (read_value written) → P written)
    by_case (inl same) = (subst P (sym same), subst P same)
    by_case (inr neither) = (
      (λ is. absurd (true≢false (sym (free written is) ∙ neither.0))),
      (λ is. absurd (true≢false (sym (free _ is) ∙ neither.1))),
    )

pub same_test : (test : List ℕ → Bool) → ((value : List ℕ) → test value ≡ true → are_free value ≡ true) →
    (written : List ℕ) →
    test (read_value written) ≡ test written
same_test test free written = by_case (same_or_neither written)
  where
    not_free : (value : List ℕ) → are_free value ≡ false → test value ≡ false
    not_free value e = elim (cases_Bool (test value)) [
      | inl is ↦ absurd (true≢false (sym (free value is) ∙ e))
      | inr
          isnt ↦ isnt
    ]

    by_case : IsSameOrNeither written → test (read_value written) ≡ test written
    by_case (inl same) = ap test same
    by_case (inr neither) = not_free _ neither.1 ∙ sym (not_free _ neither.0)

open_is_free : (value : List ℕ) → is_open value ≡ true → are_free value ≡ true
open_is_free [] is = refl
open_is_free (byte ∷ []) is = grind (arith, is)
open_is_free (byte ∷ next ∷ bytes) is = absurd (grind (arith, is))

pub same_open : (written : List ℕ) → is_open (read_value written) ≡ is_open written
same_open = same_test is_open open_is_free

digit_is_free : (byte : ℕ) → is_digit byte ≡ true → is_free byte ≡ true
digit_is_free byte is = grind (arith, is)

all_digits_free : (value : List ℕ) → list_all is_digit value ≡ true → are_free value ≡ true
all_digits_free [] is = refl
all_digits_free (byte ∷ value) is =
    let both = and_parts (is_digit byte) (list_all is_digit value) is in
    ap (λ (b : Bool). b && are_free value) (digit_is_free byte both.0) ∙ all_digits_free value both.1

digits_are_free : (value : List ℕ) → are_digits value ≡ true → are_free value ≡ true
digits_are_free [] is = refl
digits_are_free (byte ∷ value) is = all_digits_free (byte ∷ value) is

pub same_number : (boards : ℕ) (written : List ℕ) → board_number boards (read_value written) ≡ board_number boards
    written
same_number boards written = by_case (same_or_neither written)
  where
    none : (value : List ℕ) → are_free value ≡ false → board_number boards value ≡ None
    none value e =
        let digits : are_digits value ≡ false = elim (cases_Bool (are_digits value))
        [ inl is ↦ absurd (true≢false (sym (digits_are_free value is) ∙ e)) | inr isnt ↦ isnt ] in
        ap (λ (b : Bool). if b && (nat_le 1 (decimal_number value) && nat_le (decimal_number value) boards) then Some
        (decimal_number value) else None) digits

    by_case : IsSameOrNeither written → board_number boards (read_value written) ≡ board_number boards written
    by_case (inl same) = ap (board_number boards) same
    by_case (inr neither) = none (read_value written) neither.1 ∙ sym (none written neither.0)

-- `##` at the front is written as it is read
escape_no_hash : (byte next : ℕ) → is_escape byte next ≡ true → ((byte == 35) ≡ false) × ((next == 35) ≡ false)
escape_no_hash byte next e = (grind (arith, e), grind (arith, e))

form_of : (byte : ℕ) (rest : List ℕ) → Bool
form_of byte [] = false
form_of byte (next ∷ rest) = byte == 35 && next == 35

is_form_of : (byte : ℕ) (rest : List ℕ) → is_inherited_form (byte ∷ rest) ≡ form_of byte rest
unfolding form_of
is_form_of byte [] = refl
is_form_of byte (next ∷ rest) = refl

form_no : (byte : ℕ) (rest : List ℕ) → (byte == 35) ≡ false → form_of byte rest ≡ false
unfolding form_of
form_no byte [] e = refl
form_no byte (next ∷ rest) e = false_and (byte == 35) (next == 35) e

-- the first byte as it is read, or an escape at the front
form_next : (byte next : ℕ) (bytes : List ℕ) → form_of byte (read_value (next ∷ bytes)) ≡ (byte == 35 && next == 35)
unfolding form_of
form_next byte next [] = refl
form_next byte next (third ∷ bytes) =
    elim (cases_Bool (is_escape next third)) [
      | inl escape ↦
          ap (form_of byte) (reads next third bytes true escape)
          ∙ and_false (byte == 35) (third == 35) (escape_no_hash next third escape).1
          ∙ sym (and_false (byte == 35) (next == 35) (escape_no_hash next third escape).0)
      | inr plain ↦ ap (form_of byte) (reads next third bytes false plain)
    ]

pub same_form : (written : List ℕ) → is_inherited_form (read_value written) ≡ is_inherited_form written
same_form [] = refl
same_form (byte ∷ []) = refl
same_form (byte ∷ next ∷ bytes) =
    elim (cases_Bool (is_escape byte next)) [
      | inl escape ↦
          ap is_inherited_form (reads byte next bytes true escape) ∙ is_form_of next (read_value bytes)
          ∙ form_no next (read_value bytes) (escape_no_hash byte next escape).1
          ∙ sym (false_and (byte == 35) (next == 35) (escape_no_hash byte next escape).0)
      | inr plain ↦
          ap is_inherited_form (reads byte next bytes false plain) ∙ is_form_of byte (read_value (next ∷ bytes))
          ∙ form_next byte next bytes
    ]
