-- A short text in places of its own: so many bytes in front, and zeros behind them.
use Rattle.std.specs.Prelude.{◌≡◌, ℕ, ◌-◌, ◌≤◌, List, ◌++◌, length, take, drop, replicate, IsUtf8}
use Rattle.std.proofs.Common.{sym, ap, subst, ◌∙◌, take-append-drop, length-take-le}

-- the text fills the front of the places, and zeros the rest
pub record IsInPlaces (most : ℕ) (bytes : List ℕ) (len : ℕ) : Type 0 where
  pub places : length bytes ≡ most
  pub short : len ≤ most
  pub rest : drop len bytes ≡ replicate (most - len) 0
  pub text : IsUtf8 (take len bytes)

-- a text followed by zeros
abbrev pub in_places : ℕ → List ℕ → List ℕ
in_places most text = text ++ replicate (most - length text) 0

-- the text has the length that is kept
pub kept_length : (most : ℕ) (bytes : List ℕ) (len : ℕ) → IsInPlaces most bytes len → length (take len bytes) ≡ len
kept_length most bytes len kept = length-take-le len bytes (subst (λ n. len ≤ n) (sym kept.places) kept.short)

-- and gives the places back
pub kept_places : (most : ℕ) (bytes : List ℕ) (len : ℕ) → IsInPlaces most bytes len
    → in_places most (take len bytes) ≡ bytes
kept_places most bytes len kept =
    ap (λ n. take len bytes ++ replicate (most - n) 0) (kept_length most bytes len kept)
    ∙ ap (λ rest. take len bytes ++ rest) (sym kept.rest) ∙ take-append-drop len bytes
