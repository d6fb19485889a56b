-- What a list made of numbers in a row, or of lists end to end, contains.
use Rattle.std.proofs.Common.{
  ◌≡◌,
  ℕ,
  zero,
  suc,
  ◌+◌,
  ◌<◌,
  Bool,
  true,
  false,
  cond,
  List,
  [],
  ◌∷◌,
  map,
  filter,
  get_or,
  refl,
  sym,
  ◌∙◌,
  inl,
  inr,
  Contains,
  arith,
}
use Rattle.std.specs.List.{flat_map, range_with_len}
use Rattle.std.proofs.lemmas.List.Elements.{
  All-contains,
  All-contains_itself,
  All-filter,
  filter_passes,
  Contains-append_left,
  Contains-append_right,
  Contains-append_cases,
}
use Rattle.std.proofs.lemmas.List.FromFn.{
  length-range_with_len,
  get_or-range_with_len,
  length-map-range_with_len,
  get_or-map-range_with_len,
}

-- a number below the end of a range from 0
pub Contains-range : (n k : ℕ) → k < n → Contains (range_with_len 0 n) k
Contains-range n k below =
    (k, omega (arith, length-range_with_len 0 n), get_or-range_with_len 0 n k k below ∙ omega arith)

-- what is in a range from 0 is below its end
pub range-contains : (n k : ℕ) → Contains (range_with_len 0 n) k → k < n
range-contains n k (j, within, here) =
    let below : j < n = omega (arith, length-range_with_len 0 n) in
    let same : get_or (range_with_len 0 n) j k ≡ 0 + j = get_or-range_with_len 0 n j k below in
    omega arith

pub Contains-map_range : {X : Type 0} (f : ℕ → X) (n k : ℕ) → k < n → Contains (map f (range_with_len 0 n)) (f k)
Contains-map_range f n k below =
    (k, omega (arith, length-map-range_with_len f 0 n), get_or-map-range_with_len f 0 n k k (f k) below (omega arith))

pub map_range-contains : {X : Type 0} (f : ℕ → X) (n : ℕ) (x : X) → Contains (map f (range_with_len 0 n)) x →
    (k : ℕ) × (k < n) × (f k ≡ x)
map_range-contains f n x (k, within, here) =
    let below : k < n = omega (arith, length-map-range_with_len f 0 n) in
    (k, below, sym (get_or-map-range_with_len f 0 n k k x below (omega arith)) ∙ here)

-- a list of one element contains that one alone
single : {X : Type 0} (first x : X) (k : ℕ) → k < 1 → get_or (first ∷ []) k x ≡ x → first ≡ x
single first x zero below here = here
single first x (suc k) below here = absurd (omega arith)

-- what one of the lists end to end contains, they contain together
pub Contains-flat_map : {X Y : Type 0} (f : X → List Y) (xs : List X) (x : X) (y : Y) → Contains xs x →
    Contains (f x) y → Contains (flat_map f xs) y
Contains-flat_map f [] x y (k, within, here) inside = absurd (omega arith)
Contains-flat_map f (first ∷ rest) x y among inside =
    elim (Contains-append_cases (first ∷ []) rest x among) [
      | inl (k, within, here) ↦
          Contains-append_left (f first) (flat_map f rest) y
          (rw (single first x k within here) inside)
      | inr later ↦ Contains-append_right (f first) (flat_map f rest) y (Contains-flat_map f rest x y later inside)
    ]

-- what lists end to end contain, one of them contains
pub flat_map-contains : {X Y : Type 0} (f : X → List Y) (xs : List X) (y : Y) → Contains (flat_map f xs) y →
    (x : X) × Contains xs x × Contains (f x) y
flat_map-contains f [] y (k, within, here) = absurd (omega arith)
flat_map-contains f (first ∷ rest) y among =
    elim (Contains-append_cases (f first) (flat_map f rest) y among) [
      | inl inside ↦ (first, Contains-append_left (first ∷ []) rest first (0, omega arith, refl), inside)
      | inr later ↦
          let found = flat_map-contains f rest y later in
          (found.0, Contains-append_right (first ∷ []) rest found.0 found.1, found.2)
    ]

-- the head of a list that passes is kept, and whatever was kept before it
at_head : {X : Type 0} (b : Bool) (x : X) (rest : List X) → b ≡ true → Contains (cond b (x ∷ rest) rest) x
at_head true x rest passes = (0, omega arith, refl)
at_head false x rest passes = absurd (cc)

behind_head : {X : Type 0} (b : Bool) (first : X) (rest : List X) (x : X) → Contains rest x →
    Contains (cond b (first ∷ rest) rest) x
behind_head true first rest x among = Contains-append_right (first ∷ []) rest x among
behind_head false first rest x among = among

-- what passes a test and is in a list is in what the test keeps of it
pub Contains-filter : {X : Type 0} (test : X → Bool) (xs : List X) (x : X) → test x ≡ true → Contains xs x →
    Contains (filter test xs) x
Contains-filter test [] x passes (k, within, here) = absurd (omega arith)
Contains-filter test (first ∷ rest) x passes among =
    elim (Contains-append_cases (first ∷ []) rest x among) [
      | inl (k, within, here) ↦
          rw (single first x k within here) (at_head (test x) x (filter test rest) passes)
      | inr later ↦
          behind_head (test first) first (filter test rest) x (Contains-filter test rest x passes later)
    ]

-- what a test keeps of a list is in the list, and passes
pub filter-contains : {X : Type 0} (test : X → Bool) (xs : List X) (x : X) → Contains (filter test xs) x → Contains xs x
filter-contains test xs x among =
    All-contains (Contains xs) (filter test xs) x (All-filter test (Contains xs) xs (All-contains_itself xs)) among

pub filter-passed : {X : Type 0} (test : X → Bool) (xs : List X) (x : X) → Contains (filter test xs) x → test x ≡ true
filter-passed test xs x among = All-contains (λ x. test x ≡ true) (filter test xs) x (filter_passes test xs) among
