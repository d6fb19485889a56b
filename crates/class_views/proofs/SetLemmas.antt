-- What a loop leaves of a list that it writes to at one place after another.
use Rattle.std.proofs.Common.{◌≡◌, ℕ, ◌+◌, ◌<◌, ◌≤◌, List, length, get_or, set, sym, ◌∙◌, subst, inl, inr, arith}
use Rattle.std.proofs.lemmas.Bool.{cases_eq}
use Rattle.std.proofs.lemmas.List.{get_or-set_same, get_or-set_other}

-- what holds at the places before holds at one more
pub done_more : {X : Type 0} (P : ℕ → X → X → Type 0) (first xs : List X) (place : ℕ) (x : X) → place < length xs →
    ((k : ℕ) (d : X) → k < place → P k (get_or first k d) (get_or xs k d)) →
    ((d : X) → P place (get_or first place d) x) →
    (k : ℕ) (d : X) → k < place + 1 → P k (get_or first k d) (get_or (set xs place x) k d)
done_more P first xs place x within done now k d below =
    elim (cases_eq k place) [
      | inl here ↦
          subst (λ n. P n (get_or first n d) (get_or (set xs place x) n d)) (sym here)
          (subst (P place (get_or first place d)) (sym (get_or-set_same xs place x d within)) (now d))
      | inr other ↦
          subst (P k (get_or first k d)) (sym (get_or-set_other xs place k x d other))
          (done k d (omega (arith, below, other)))
    ]

-- and what comes later is left
pub rest_left : {X : Type 0} (first xs : List X) (place : ℕ) (x : X) →
    ((k : ℕ) (d : X) → place ≤ k → get_or xs k d ≡ get_or first k d) →
    (k : ℕ) (d : X) → place + 1 ≤ k → get_or (set xs place x) k d ≡ get_or first k d
rest_left first xs place x rest k d from =
    get_or-set_other xs place k x d (λ is. absurd (omega (arith, is, from))) ∙ rest k d (omega (arith, from))
