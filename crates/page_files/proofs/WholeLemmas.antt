-- What is read of a file: all of it, where fewer bytes came than might have.
use Rattle.std.proofs.Common.{◌≡◌, ◌∙◌, ◌+◌, ◌≤◌, ℕ, List, [], ◌++◌, length, take, subst, inl, inr, arith}
use Rattle.std.specs.Prelude.{Option, Some, None, IfSome, option_map}
use Rattle.std.specs.Io.Take.{take_limit, take_inner, take_remaining}
use Rattle.std.specs.declared.io.traits.Take.{Take}
use Rattle.std.proofs.lemmas.List.{take_all, length-take-le}
use Rattle.std.proofs.lemmas.Bool.{cases_lt}

-- what is short although more was allowed is all
all_of : (limit : ℕ) (all : List ℕ) → length (take (limit + 1) all) ≤ limit → take (limit + 1) all ≡ all
all_of limit all short = elim (cases_lt (limit + 1) (length all)) [
  | inr few ↦ take_all (limit + 1) all few
  | inl many ↦
      let most : limit + 1 ≤ length all = omega (arith, many) in
      let cut = length-take-le (limit + 1) all most in
      absurd (omega (arith, short, cut))
]

whole_known : (known : Option (List ℕ)) (limit : ℕ) (bytes : List ℕ)
    → IfSome (option_map (take (limit + 1)) known) (λ given. bytes ≡ given) → length bytes ≤ limit → IfSome known
    (λ all. bytes ≡ all)
whole_known None limit bytes read short = tt
whole_known (Some all) limit bytes read short = read ∙ all_of limit all (subst (λ (b : List ℕ). length b ≤ limit) read
    short)

-- a reader that is read up to a byte more than the limit, and gave no more than the limit, gave all
pub whole : {R : Type 0} (remaining : R → Option (List ℕ)) (reader : R) (limited : Take R) (limit : ℕ)
    (before bytes : List ℕ)
    → take_limit limited ≡ limit + 1 → take_inner limited ≡ reader → before ≡ []
    → IfSome (take_remaining remaining limited) (λ given. bytes ≡ before ++ given) → length bytes ≤ limit
    → IfSome (remaining reader) (λ all. bytes ≡ all)
whole remaining reader limited limit before bytes limit_is inner_is none read short =
    whole_known (remaining reader) limit bytes (rw (limit_is, inner_is, none) at read) short
