-- What is kept of a list's first elements, with one element more.
use Rattle.std.proofs.Common.{
  ◌≡◌,
  ℕ,
  ◌+◌,
  ◌<◌,
  Bool,
  true,
  false,
  cond,
  List,
  [],
  ◌∷◌,
  ◌++◌,
  length,
  get_or,
  take,
  ap,
  ◌∙◌,
}
use Rattle.std.specs.Prelude.{filter}
use Rattle.std.proofs.lemmas.List.{take_more, append-nil}
use Rattle.std.proofs.lemmas.List.Elements.{filter-append}

next : {X : Type 0} (test : X → Bool) (xs : List X) (i : ℕ) (d : X) → i < length xs →
    filter test (take (i + 1) xs) ≡ filter test (take i xs) ++ filter test (get_or xs i d ∷ [])
next test xs i d below = ap (filter test) (take_more xs i d below) ∙ filter-append test (take i xs) (get_or xs i d ∷ [])

pub with_next : {X : Type 0} (test : X → Bool) (xs : List X) (i : ℕ) (d : X) → i < length xs → test (get_or xs i d) ≡
    true →
    filter test (take (i + 1) xs) ≡ filter test (take i xs) ++ get_or xs i d ∷ []
with_next test xs i d below passes =
    next test xs i d below ∙ ap (λ b. filter test (take i xs) ++ cond b (get_or xs i d ∷ []) []) passes

pub without_next : {X : Type 0} (test : X → Bool) (xs : List X) (i : ℕ) (d : X) → i < length xs → test (get_or xs i d) ≡
    false →
    filter test (take (i + 1) xs) ≡ filter test (take i xs)
without_next test xs i d below fails =
    next test xs i d below ∙ ap (λ b. filter test (take i xs) ++ cond b (get_or xs i d ∷ []) []) fails ∙ append-nil _
