-- The rows that are kept, one place after another.
use Rattle.std.proofs.Common.{◌≡◌, ℕ, zero, suc, ◌+◌, [], ◌∷◌, ◌++◌, ap, ◌∙◌, arith}
use Rattle.std.specs.Prelude.{Option}
use Rattle.std.specs.List.{filter_map, cons_option, range_with_len}
use Rattle.std.proofs.lemmas.List.Elements.{filter_map-append}

-- the numbers from one on, with one number more
range_more : (first n : ℕ) → range_with_len first (suc n) ≡ range_with_len first n ++ (first + n) ∷ []
range_more first zero = λ i. none_more i ∷ []
  where
    none_more : first ≡ first + 0
    none_more = omega arith
range_more first (suc n) =
    ap (λ rest. first ∷ rest) (range_more (first + 1) n ∙ (λ i. range_with_len (first + 1) n ++ next i ∷ []))
  where
    next : first + 1 + n ≡ first + suc n
    next = omega arith

-- what is kept at the places so far, with one place more
pub kept_with_next : {X : Type 0} (f : ℕ → Option X) (n : ℕ) →
    filter_map f (range_with_len 0 (n + 1)) ≡ filter_map f (range_with_len 0 n) ++ cons_option (f n) []
kept_with_next f n =
    ap (filter_map f) (ap (range_with_len 0) one_more ∙ range_more 0 n)
    ∙ (filter_map-append f (range_with_len 0 n) ((0 + n) ∷ [])
    ∙ ap (λ m. filter_map f (range_with_len 0 n) ++ cons_option (f m) []) none_before)
  where
    one_more : n + 1 ≡ suc n
    one_more = omega arith

    none_before : 0 + n ≡ n
    none_before = omega arith
