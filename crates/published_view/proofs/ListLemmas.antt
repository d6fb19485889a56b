-- Lists that a loop makes, an item at a time.
use Rattle.std.proofs.Common.{
  ◌≡◌,
  ℕ,
  zero,
  suc,
  ◌+◌,
  ◌<◌,
  Bool,
  true,
  false,
  List,
  [],
  ◌∷◌,
  ◌++◌,
  length,
  take,
  get_or,
  refl,
  ap,
  ◌∙◌,
  arith,
}
use Rattle.std.specs.Prelude.{Option, Some, None, cond, filter, slice_get}
use Rattle.std.specs.Bool.{then_some}
use Rattle.std.specs.Option.{option_map}
use Rattle.rbac.specs.declared.inheritance.Inheritance.{Inheritance}
use Rattle.session_roles.specs.declared.role.Role.{Role}
use Rattle.std.specs.List.{filter_map, cons_option, flat_map, range_with_len}
use Rattle.std.proofs.lemmas.Grind.{flat_map-append}
use Rattle.std.proofs.lemmas.List.{take_more, append-nil}
use Rattle.std.proofs.lemmas.List.Elements.{filter_map-append, filter-append}

-- what is given of the first items, and of one more
pub filter_map_more : {X Y : Type 0} (f : X → Option Y) (xs : List X) (k : ℕ) (d : X) → k < length xs →
    filter_map f (take (k + 1) xs) ≡ filter_map f (take k xs) ++ cons_option (f (get_or xs k d)) []
filter_map_more f xs k d below = ap (filter_map f) (take_more xs k d below) ∙ filter_map-append f (take k xs)
    (get_or xs k d ∷ [])

-- what is found where a test holds
pub found_where : {X : Type 0} (test : Bool) (x : X) → cons_option (then_some test x) [] ≡ cond test (x ∷ []) []
found_where true x = refl
found_where false x = refl

-- numbers in a row, and one more
pub range_more : (first n : ℕ) → range_with_len first (n + 1) ≡ range_with_len first n ++ (first + n) ∷ []
range_more first n = ap (range_with_len first) one_more ∙ more first n
  where
    one_more : n + 1 ≡ suc n
    one_more = omega arith

    more : (first n : ℕ) → range_with_len first (suc n) ≡ range_with_len first n ++ (first + n) ∷ []
    more first zero = λ i. none_more i ∷ []
      where
        none_more : first ≡ first + 0
        none_more = omega arith
    more first (suc n) = ap (λ rest. first ∷ rest)
        (more (first + 1) n ∙ (λ i. range_with_len (first + 1) n ++ next i ∷ []))
      where
        next : first + 1 + n ≡ first + suc n
        next = omega arith

-- those of the first numbers that pass a test, and of one more
pub filter_range_more : (p : ℕ → Bool) (n : ℕ) →
    filter p (range_with_len 1 (n + 1)) ≡ filter p (range_with_len 1 n) ++ cond (p (n + 1)) ((n + 1) ∷ []) []
filter_range_more p n =
    ap (filter p) (range_more 1 n)
    ∙ (filter-append p (range_with_len 1 n) ((1 + n) ∷ [])
    ∙ ap (λ k. filter p (range_with_len 1 n) ++ cond (p k) (k ∷ []) []) (omega arith))

-- the items of the first numbers, and of one more
pub flat_map_range_more : {X : Type 0} (f : ℕ → List X) (n : ℕ) →
    flat_map f (range_with_len 1 (n + 1)) ≡ flat_map f (range_with_len 1 n) ++ f (n + 1)
flat_map_range_more f n =
    ap (flat_map f) (range_more 1 n)
    ∙ (flat_map-append f (range_with_len 1 n) ((1 + n) ∷ [])
    ∙ (ap (λ items. flat_map f (range_with_len 1 n) ++ items) (append-nil (f (1 + n)))
    ∙ ap (λ k. flat_map f (range_with_len 1 n) ++ f k) (omega arith)))

-- the first pairs and one more, where that is found at its place
pub pair_more : (pairs : List Inheritance) (k : ℕ) (senior junior : Role) →
    option_map {U = Role × Role} (λ (pair : Inheritance). (pair.senior, pair.junior)) (slice_get pairs k) ≡ Some
    (senior, junior) →
    take (suc k) pairs ≡ take k pairs ++ record { senior = senior; junior = junior } ∷ []
pair_more [] k senior junior there = absurd (cc)
pair_more (pair ∷ pairs) zero senior junior there =
    let same : (pair.senior, pair.junior) ≡ (senior, junior) = some_same there in
    λ i. record { senior = (same i).0; junior = (same i).1 } ∷ []
  where
    some_same : {a b : Role × Role} → Some a ≡ Some b → a ≡ b
    some_same same = cc
pair_more (pair ∷ pairs) (suc k) senior junior there = ap (λ rest. pair ∷ rest) (pair_more pairs k senior junior there)

-- where no pair is found at a place, all pairs are before it
pub pairs_end : (pairs : List Inheritance) (k : ℕ) →
    option_map {U = Role × Role} (λ (pair : Inheritance). (pair.senior, pair.junior)) (slice_get pairs k) ≡ None →
    take k pairs ≡ pairs
pairs_end [] zero none = refl
pairs_end [] (suc k) none = refl
pairs_end (pair ∷ pairs) zero none = absurd (cc)
pairs_end (pair ∷ pairs) (suc k) none = ap (λ rest. pair ∷ rest) (pairs_end pairs k none)
