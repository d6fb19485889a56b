-- The costs of a play in their 52 places.
use Rattle.std.specs.Prelude.{◌≡◌, ◌-◌, ◌≤◌, ℕ, List, ◌++◌, length, take, drop, replicate}
use Rattle.std.proofs.Common.{sym, ap, subst, ◌∙◌, take-append-drop, length-take-le}
use Rattle.solver_results.specs.declared.costs.Costs.TheInside.{Inside}

-- the numbers fill the front of the 52 places, and the others hold 0
pub record IsCosts (costs : Inside) : Type 0 where
  pub places : length costs.numbers ≡ 52
  pub short : costs.len ≤ 52
  pub rest : drop costs.len costs.numbers ≡ replicate (52 - costs.len) 0

-- the numbers
abbrev pub numbers_of : Inside → List ℕ
numbers_of costs = take costs.len costs.numbers

-- the places of so many numbers
abbrev pub number_places : List ℕ → Inside
number_places numbers = record { numbers = numbers ++ replicate (52 - length numbers) 0; len = length numbers }

-- the numbers give the places back
pub number_places-numbers_of : (costs : Inside) → IsCosts costs → number_places (numbers_of costs) ≡ costs
number_places-numbers_of costs kept =
    let len = length-take-le costs.len costs.numbers (subst (λ n. costs.len ≤ n) (sym kept.places) kept.short) in
    let numbers = ap (λ n. take costs.len costs.numbers ++ replicate (52 - n) 0) len
    ∙ ap (λ rest. take costs.len costs.numbers ++ rest) (sym kept.rest) ∙ take-append-drop costs.len costs.numbers in
    λ i. record { numbers = numbers i; len = len i }
