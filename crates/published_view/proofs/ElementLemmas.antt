-- The elements of lists that are made from others.
use Rattle.std.proofs.Common.{
  ◌≡◌,
  ℕ,
  zero,
  suc,
  ◌+◌,
  ◌<◌,
  ◌≤◌,
  ◌⊎◌,
  Bool,
  true,
  false,
  cond,
  List,
  [],
  ◌∷◌,
  map,
  filter,
  Contains,
  refl,
  sym,
  ap,
  subst,
  ◌∙◌,
  inl,
  inr,
  arith,
}
use Rattle.std.specs.List.{flat_map, range_with_len}
use Rattle.std.proofs.lemmas.Bool.{false≢true}
use Rattle.std.proofs.lemmas.List.Elements.{Contains-append_cases}

pub contains_first : {X : Type 0} (x : X) (xs : List X) → Contains (x ∷ xs) x
contains_first x xs = (0, omega arith, refl)

pub contains_later : {X : Type 0} (y : X) (xs : List X) (x : X) → Contains xs x → Contains (y ∷ xs) x
contains_later y xs x there = (suc there.0, omega (arith, there.1), there.2)

pub contains_cases : {X : Type 0} (y : X) (xs : List X) (x : X) → Contains (y ∷ xs) x → (y ≡ x) ⊎ Contains xs x
contains_cases y xs x (zero, below, here) = inl here
contains_cases y xs x (suc k, below, here) = inr (k, omega (arith, below), here)

pub none_there : {X : Type 0} {A : Type 0} (x : X) → Contains [] x → A
none_there x (k, below, here) = absurd (omega (arith, below))

pub contains_map : {X Y : Type 0} (f : X → Y) (xs : List X) (x : X) → Contains xs x → Contains (map f xs) (f x)
contains_map f [] x there = none_there x there
contains_map f (first ∷ xs) x there =
    elim (contains_cases first xs x there) [
      | inl is ↦ subst (λ y. Contains (f first ∷ map f xs) (f y)) is (contains_first (f first) (map f xs))
      | inr later ↦ contains_later (f first) (map f xs) (f x) (contains_map f xs x later)
    ]

pub from_map : {X Y : Type 0} (f : X → Y) (xs : List X) (y : Y) → Contains (map f xs) y → (x : X) × Contains xs x ×
    (f x ≡ y)
from_map f [] y there = none_there y there
from_map f (first ∷ xs) y there =
    elim (contains_cases (f first) (map f xs) y there) [
      | inl is ↦ (first, contains_first first xs, is)
      | inr later ↦ let rest = from_map f xs y later in (rest.0, contains_later first xs rest.0 rest.1, rest.2)
    ]

module _ {X : Type 0} (keeps : X → Bool) where
  contains_kept : (b : Bool) (first : X) (xs : List X) (x : X) → keeps first ≡ b → keeps x ≡ true → (first ≡ x) ⊎
      Contains xs x → Contains (cond b (first ∷ xs) xs) x
  contains_kept true first xs x is kept (inl same) = subst (Contains (first ∷ xs)) same (contains_first first xs)
  contains_kept true first xs x is kept (inr later) = contains_later first xs x later
  contains_kept false first xs x is kept (inl same) = absurd (false≢true (sym is ∙ (ap keeps same ∙ kept)))
  contains_kept false first xs x is kept (inr later) = later

  pub contains_filter : (xs : List X) (x : X) → Contains xs x → keeps x ≡ true → Contains (filter keeps xs) x
  contains_filter [] x there kept = there
  contains_filter (first ∷ xs) x there kept =
      contains_kept (keeps first) first (filter keeps xs) x refl kept
      (elim (contains_cases first xs x there) [
        | inl same ↦ inl same
        | inr later ↦ inr (contains_filter xs x later kept)
      ])

  from_kept : (b : Bool) (first : X) (xs : List X) (x : X) → keeps first ≡ b → Contains (cond b (first ∷ xs) xs) x →
      ((first ≡ x) × (keeps x ≡ true)) ⊎ Contains xs x
  from_kept true first xs x is there =
      elim (contains_cases first xs x there) [
        | inl same ↦ inl (same, sym (ap keeps same) ∙ is)
        | inr later ↦ inr later
      ]
  from_kept false first xs x is there = inr there

  pub from_filter : (xs : List X) (x : X) → Contains (filter keeps xs) x → Contains xs x × (keeps x ≡ true)
  from_filter [] x there = none_there x there
  from_filter (first ∷ xs) x there =
      elim (from_kept (keeps first) first (filter keeps xs) x refl there) [
        | inl here ↦ (subst (Contains (first ∷ xs)) here.0 (contains_first first xs), here.1)
        | inr later ↦ let rest = from_filter xs x later in (contains_later first xs x rest.0, rest.1)
      ]

pub from_flat : {X Y : Type 0} (f : X → List Y) (xs : List X) (y : Y) → Contains (flat_map f xs) y → (x : X) ×
    Contains xs x × Contains (f x) y
from_flat f [] y there = none_there y there
from_flat f (first ∷ xs) y there =
    elim (Contains-append_cases (f first) (flat_map f xs) y there) [
      | inl here ↦ (first, contains_first first xs, here)
      | inr later ↦ let rest = from_flat f xs y later in (rest.0, contains_later first xs rest.0 rest.1, rest.2)
    ]

pub from_range : (first count k : ℕ) → Contains (range_with_len first count) k → (first ≤ k) × (k < first + count)
from_range first zero k there = none_there k there
from_range first (suc count) k there =
    elim (contains_cases first (range_with_len (first + 1) count) k there) [
      | inl is ↦ (omega (arith, is), omega (arith, is))
      | inr later ↦ let rest = from_range (first + 1) count k later in (omega (arith, rest.0), omega (arith, rest.1))
    ]
