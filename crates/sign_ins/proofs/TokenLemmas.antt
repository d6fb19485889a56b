-- The text of a token, letter by letter.
use Rattle.std.proofs.Common.{◌≡◌, ℕ, suc, ◌+◌, List, [], ◌∷◌, ◌++◌, length, map, cond, Result, Ok, Err, OnOk, refl, sym, ap, ◌∙◌, zero-add, append_assoc, arith}
use Rattle.std.specs.Result.{is_ok}
use Rattle.std.proofs.lemmas.List.{append_cancel_left}
use Rattle.sign_ins.specs.Token.{bits_that_count, token_letter, dash_before, in_groups}
use Rattle.sign_ins.proofs.LetterLemmas.{bits_told}

-- one letter more
pub one_more : (bytes : List ℕ) (place byte : ℕ)
    → in_groups place (bytes ++ byte ∷ []) ≡ (in_groups place bytes ++ dash_before (length bytes + place)) ++ token_letter byte ∷ []
unfolding in_groups
one_more [] place byte = ap (λ (at : ℕ). dash_before at ++ token_letter byte ∷ []) (sym (zero-add place))
one_more (first ∷ bytes) place byte =
    let shift : length bytes + suc place ≡ length (first ∷ bytes) + place = omega arith in
    let before = dash_before place in
    let letters = in_groups (suc place) bytes in
    ap (λ (rest : List ℕ). before ++ token_letter first ∷ rest)
    (one_more bytes (suc place) byte
    ∙ ap (λ (at : ℕ). (letters ++ dash_before at) ++ token_letter byte ∷ []) shift)
    ∙ simp append_assoc

ends_somewhere : (before : List ℕ) (letter : ℕ) (rest : List ℕ) → [] ≡ before ++ letter ∷ rest → ⊥
ends_somewhere [] letter rest same = cc
ends_somewhere (sign ∷ before) letter rest same = cc

abbrev first_or_zero : List ℕ → ℕ
first_or_zero [] = 0
first_or_zero (x ∷ xs) = x

abbrev rest_of : List ℕ → List ℕ
rest_of [] = []
rest_of (x ∷ xs) = xs

-- the letters tell the bits that count
pub same_draw : (one other : List ℕ) (place : ℕ) → in_groups place one ≡ in_groups place other
    → map bits_that_count one ≡ map bits_that_count other
unfolding in_groups
same_draw [] [] place same = refl
same_draw [] (byte ∷ other) place same =
    absurd (ends_somewhere (dash_before place) (token_letter byte) (in_groups (suc place) other) same)
same_draw (byte ∷ one) [] place same =
    absurd (ends_somewhere (dash_before place) (token_letter byte) (in_groups (suc place) one) (sym same))
same_draw (byte ∷ one) (byte' ∷ other) place same =
    let letters = append_cancel_left (dash_before place) (token_letter byte ∷ in_groups (suc place) one) (token_letter byte' ∷ in_groups (suc place) other) same in
    let bits = bits_told byte byte' (ap first_or_zero letters) in
    let rest = same_draw one other (suc place) (ap rest_of letters) in
    ap (λ (b : ℕ). b ∷ map bits_that_count one) bits ∙ ap (λ (bs : List ℕ). bits_that_count byte' ∷ bs) rest

-- what a push adds, where it does
pub on_ok_pushed : {T E : Type 0} (r : Result T E) (new old more : List ℕ) → new ≡ cond (is_ok r) (old ++ more) old
    → OnOk r (new ≡ old ++ more)
on_ok_pushed (Ok x) new old more is = is
on_ok_pushed (Err e) new old more is = tt
