-- The letters of tokens: each is one byte of UTF-8, and no two are the same.
use Rattle.std.proofs.Common.{◌≡◌, ◌<◌, ℕ, zero, suc, Bool, true, false, ◌&&◌, cond, eqb, ltb, ◌⊎◌, inl, inr, List, [], ◌∷◌, slice_index, refl, sym, ap, ◌∙◌, arith}
use Rattle.std.proofs.lemmas.Bool.{eqb-true, ltb-true}
use Rattle.std.proofs.lemmas.Bool.Decides.{eqb_tells}
use Rattle.std.proofs.lemmas.Nat.{mod_below}
use Rattle.sign_ins.specs.Token.{token_letters, token_letter, bits_that_count}

-- a test holds of each number below another
abbrev holds_below : (ℕ → Bool) → ℕ → Bool
holds_below test zero = true
holds_below test (suc n) = test n && holds_below test n

first_holds : (a b : Bool) → (a && b) ≡ true → a ≡ true
first_holds true b h = refl
first_holds false b h = absurd (cc)

others_hold : (a b : Bool) → (a && b) ≡ true → b ≡ true
others_hold true b h = h
others_hold false b h = absurd (cc)

last_or_below : (k n : ℕ) → k < suc n → (k ≡ n) ⊎ (k < n)
last_or_below k n below = elim (eqb_tells k n) [ inl same ↦ inl same.1 | inr other ↦ inr (omega (arith, below, other.1)) ]

holds_at : (test : ℕ → Bool) (n k : ℕ) → holds_below test n ≡ true → k < n → test k ≡ true
holds_at test zero k h below = absurd (omega (arith, below))
holds_at test (suc n) k h below =
    elim (last_or_below k n below) [
      | inl same ↦ ap test same ∙ first_holds (test n) (holds_below test n) h
      | inr less ↦ holds_at test n k (others_hold (test n) (holds_below test n) h) less
    ]

-- where a letter stands among others
abbrev place_of : ℕ → List ℕ → ℕ
place_of letter [] = 0
place_of letter (other ∷ others) = cond (eqb letter other) 0 (suc (place_of letter others))

abbrev is_ascii : ℕ → Bool
is_ascii k = ltb (slice_index token_letters k) 128

abbrev is_in_place : ℕ → Bool
is_in_place k = eqb (place_of (slice_index token_letters k) token_letters) k

pub letter_is_ascii : (byte : ℕ) → token_letter byte < 128
unfolding token_letter
letter_is_ascii byte =
    ltb-true (slice_index token_letters (bits_that_count byte)) 128 (holds_at is_ascii 32 (bits_that_count byte) refl (mod_below byte 32 (omega arith)))

in_place : (byte : ℕ) → place_of (token_letter byte) token_letters ≡ bits_that_count byte
unfolding token_letter
in_place byte =
    eqb-true (place_of (slice_index token_letters (bits_that_count byte)) token_letters) (bits_that_count byte)
    (holds_at is_in_place 32 (bits_that_count byte) refl (mod_below byte 32 (omega arith)))

-- a letter tells the bits that count
pub bits_told : (one other : ℕ) → token_letter one ≡ token_letter other → bits_that_count one ≡ bits_that_count other
bits_told one other same =
    sym (in_place one) ∙ ap (λ (letter : ℕ). place_of letter token_letters) same ∙ in_place other
