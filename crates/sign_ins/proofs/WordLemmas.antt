-- The letters of a first word, sign by sign.
use Rattle.std.proofs.Common.{◌≡◌, ◌<◌, ◌≤◌, ◌+◌, inl, inr, ℕ, suc, Bool, true, false, ◌&&◌, not, cond, nat_eq, nat_lt, List, [], ◌∷◌, ◌++◌, length, drop, get_or, refl, sym, ap, ◌∙◌, arith}
use Rattle.std.proofs.lemmas.Bool.Decides.{eqb_tells}
use Rattle.std.proofs.lemmas.List.{at_drop_more, at_drop_all}
use Rattle.std.specs.Char.{is_whitespace}
use Rattle.sign_ins.specs.SignInName.{before_blank, first_word, spelt, with_sign, with_signs}
use Rattle.sign_ins.specs.declared.sign_in_name.TheConstants.{MOST_LETTERS}

not_none : (n : ℕ) → nat_eq (suc n) 0 ≡ false
not_none n = elim (eqb_tells (suc n) 0) [ inl same ↦ absurd (omega (arith, same.1)) | inr other ↦ other.0 ]

-- the letters of a first word of which some stand already
abbrev pub letters_behind : List ℕ → List ℕ → List ℕ
letters_behind [] signs = with_signs [] (first_word signs)
letters_behind (letter ∷ letters) signs = with_signs (letter ∷ letters) (before_blank signs)

pub at_end : (letters : List ℕ) → letters_behind letters [] ≡ letters
at_end [] = refl
at_end (letter ∷ letters) = refl

ends : (blank : Bool) (letters : List ℕ) (sign : ℕ) (signs : List ℕ) → blank ≡ true
    → with_signs letters (cond blank [] (sign ∷ before_blank signs)) ≡ letters
ends true letters sign signs is = refl
ends false letters sign signs is = absurd (cc)

goes_on : (blank : Bool) (letters : List ℕ) (sign : ℕ) (signs : List ℕ) → blank ≡ false
    → with_signs letters (cond blank [] (sign ∷ before_blank signs)) ≡ with_signs (with_sign letters sign) (before_blank signs)
goes_on true letters sign signs is = absurd (cc)
goes_on false letters sign signs is = refl

blank_ends : (blank none : Bool) → none ≡ false → (blank && not none) ≡ true → blank ≡ true
blank_ends true none some is = refl
blank_ends false none some is = absurd (cc)

no_blank : (blank none : Bool) → none ≡ false → (blank && not none) ≡ false → blank ≡ false
no_blank true true some is = absurd (cc)
no_blank true false some is = absurd (cc)
no_blank false none some is = refl

never : (blank : Bool) → (blank && false) ≡ true → ⊥
never true is = cc
never false is = cc

-- behind a letter a blank ends the word
pub word_ends : (letters : List ℕ) (sign : ℕ) (signs : List ℕ)
    → (is_whitespace sign && not (nat_eq (length letters) 0)) ≡ true → letters_behind letters (sign ∷ signs) ≡ letters
word_ends [] sign signs is = absurd (never (is_whitespace sign) is)
word_ends (letter ∷ letters) sign signs is =
    ends (is_whitespace sign) (letter ∷ letters) sign signs (blank_ends (is_whitespace sign) (nat_eq (length (letter ∷ letters)) 0) (not_none (length letters)) is)

pushed : (room : Bool) (letter : ℕ) (letters more signs : List ℕ)
    → with_signs (cond room ((letter ∷ letters) ++ more) (letter ∷ letters)) (before_blank signs)
    ≡ letters_behind (cond room ((letter ∷ letters) ++ more) (letter ∷ letters)) signs
pushed true letter letters more signs = refl
pushed false letter letters more signs = refl

begun : (more : List ℕ) (sign : ℕ) (signs : List ℕ) → spelt sign ≡ more
    → with_signs [] (cond (nat_eq (length more) 0) (first_word signs) (sign ∷ before_blank signs)) ≡ letters_behind more signs
begun [] sign signs is = refl
begun (letter ∷ more) sign signs is =
    ap (λ (none : Bool). with_signs [] (cond none (first_word signs) (sign ∷ before_blank signs))) (not_none (length more))
    ∙ ap (λ (letters : List ℕ). with_signs letters (before_blank signs)) is

-- and else the sign is one of it
pub word_goes_on : (letters : List ℕ) (sign : ℕ) (signs : List ℕ)
    → (is_whitespace sign && not (nat_eq (length letters) 0)) ≡ false
    → letters_behind letters (sign ∷ signs) ≡ letters_behind (with_sign letters sign) signs
word_goes_on [] sign signs is = begun (spelt sign) sign signs refl
word_goes_on (letter ∷ letters) sign signs is =
    goes_on (is_whitespace sign) (letter ∷ letters) sign signs (no_blank (is_whitespace sign) (nat_eq (length (letter ∷ letters)) 0) (not_none (length letters)) is)
    ∙ pushed (nat_lt (length (letter ∷ letters)) MOST_LETTERS) letter letters (spelt sign) signs

-- the same where a sign was found in a text
pub ends_there : (signs letters : List ℕ) (place sign : ℕ) → (place < length signs) × (sign ≡ get_or signs place sign)
    → (is_whitespace sign && not (nat_eq (length letters) 0)) ≡ true → letters_behind letters (drop place signs) ≡ letters
ends_there signs letters place sign found is =
    at_drop_more (letters_behind letters) signs place sign found.0
    ∙ ap (λ (at : ℕ). letters_behind letters (at ∷ drop (place + 1) signs)) (sym found.1)
    ∙ word_ends letters sign (drop (place + 1) signs) is

pub goes_on_there : (signs letters : List ℕ) (place sign : ℕ) → (place < length signs) × (sign ≡ get_or signs place sign)
    → (is_whitespace sign && not (nat_eq (length letters) 0)) ≡ false
    → letters_behind letters (drop place signs) ≡ letters_behind (with_sign letters sign) (drop (place + 1) signs)
goes_on_there signs letters place sign found is =
    at_drop_more (letters_behind letters) signs place sign found.0
    ∙ ap (λ (at : ℕ). letters_behind letters (at ∷ drop (place + 1) signs)) (sym found.1)
    ∙ word_goes_on letters sign (drop (place + 1) signs) is

pub ends_at_last : (signs letters : List ℕ) (place : ℕ) → length signs ≤ place
    → letters_behind letters (drop place signs) ≡ letters
ends_at_last signs letters place past = at_drop_all (letters_behind letters) signs place past ∙ at_end letters
