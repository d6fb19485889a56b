-- Lists: the first element that passes a test, some element, and elements by place.
use Rattle.std.proofs.Common.{
  ◌≡◌,
  ℕ,
  ◌<◌,
  ◌≤◌,
  Bool,
  true,
  false,
  cond,
  List,
  [],
  ◌∷◌,
  ◌++◌,
  length,
  inl,
  inr,
  get_or,
  Some,
  None,
  zero,
  suc,
  refl,
  sym,
  ap,
  subst,
  ◌∙◌,
  arith,
}
use Rattle.std.specs.Prelude.{find, All, ◌⊎◌, Contains, filter}
use Rattle.std.specs.List.{Any, list_any, AllByRecursion, IsDistinct}
use Rattle.std.specs.Cmp.{IsEquivalence}
use Rattle.std.proofs.lemmas.Bool.Decides.{same_from_decides, Decides-like}
use Rattle.std.proofs.lemmas.List.{get_or_append_left, get_or_push, length_push, get_or_default}
use Rattle.std.proofs.lemmas.List.Elements.{All-filter, All-from_recursion, recursion_from_All}
use Rattle.std.proofs.lemmas.Map.Keys.{IsDistinct-from_apart, IsDistinct-head, IsDistinct-tail, IsDistinct-cons}
use Rattle.std.specs.Bool.{Decides}
use Rattle.std.proofs.lemmas.Bool.{cond-true, cond-false, cases_lt}
use Rattle.std.proofs.lemmas.List.Folds.{Any-from_list_any, list_any-from_Any}

-- the first element that passes is found
pub find_first : {X : Type 0} (p : X → Bool) (xs : List X) (i : ℕ) (d : X) → i < length xs → p (get_or xs i d) ≡ true →
    ((k : ℕ) → k < i → p (get_or xs k d) ≡ false) → find p xs ≡ Some (get_or xs i d)
find_first p [] i d within passes before = absurd (omega arith)
find_first p (x ∷ xs) zero d within passes before = cond-true (p x) (Some x) (find p xs) passes
find_first p (x ∷ xs) (suc i) d within passes before =
    cond-false (p x) (Some x) (find p xs) (before 0 (omega arith))
    ∙ find_first p xs i d (omega arith) passes (λ k below. before (suc k) (omega arith))

-- where none passes, none is found
pub find_none : {X : Type 0} (p : X → Bool) (xs : List X) → All (λ x. p x ≡ false) xs → find p xs ≡ None
find_none p [] fails = refl
find_none p (x ∷ xs) fails =
    cond-false (p x) (Some x) (find p xs) (fails 0 x (omega arith)) ∙ find_none p xs
    (λ k d below. fails (suc k) d (omega arith))

-- a test of the elements decides whether some element has what the test decides
pub decides_any : {X : Type 0} (p : X → Bool) (P : X → Type 0) → ((x : X) → Decides (p x) (P x)) → (xs : List X) →
    Decides (list_any p xs) (Any P xs)
decides_any p P each xs = (
  λ passes. let w = Any-from_list_any p xs passes in (w.0, w.1, w.2, w.3, (each w.1).0 w.4),
  λ some. list_any-from_Any p xs (some.0, some.1, some.2, some.3, (each some.1).1 some.4),
)

-- some element of a list that got one more
push_cases : {X : Type 0} (P : X → Type 0) (xs : List X) (y : X) (k : ℕ) (x : X) → k < length (xs ++ y ∷ []) →
    get_or (xs ++ y ∷ []) k x ≡ x → P x → (k < length xs) ⊎ (length xs ≤ k) → Any P xs ⊎ P y
push_cases P xs y k x within is holds (inl old) =
    inl (k, x, old, sym (get_or_append_left xs (y ∷ []) x k old) ∙ is, holds)
push_cases P xs y k x within is holds (inr new) =
    let last : k ≡ length xs = omega (arith, length_push xs y) in
    inr (subst P (sym is ∙ get_or_push xs y x k (sym last)) holds)

pub Any-push_cases : {X : Type 0} (P : X → Type 0) (xs : List X) (y : X) → Any P (xs ++ y ∷ []) → Any P xs ⊎ P y
Any-push_cases P xs y some = push_cases P xs y some.0 some.1 some.2 some.3 some.4 (cases_lt some.0 (length xs))

-- a test that decides equality is an equivalence
pub equivalence : {X : Type 0} (same : X → X → Bool) → ((a b : X) → Decides (same a b) (a ≡ b)) → IsEquivalence same
equivalence same decides = record {
  refl = λ x. (decides x x).1 refl;
  symm = λ x y. same_from_decides (same x y) (same y x) (decides x y) (Decides-like (same y x) (λ e. sym e) (λ e. sym e)
      (decides y x));
  congr = λ x y z e. ap (λ w. same w z) ((decides x y).0 e);
}

-- and decides whether an element is there
pub decides_contains : {X : Type 0} (same : X → X → Bool) → ((a b : X) → Decides (same a b) (a ≡ b)) → (xs : List X)
    (x : X) → Decides (list_any (λ y. same y x) xs) (Contains xs x)
decides_contains same decides xs x =
    Decides-like (list_any (λ y. same y x) xs)
    (λ some. (some.0, some.2, get_or_default xs some.0 x some.1 some.2 ∙ some.3 ∙ some.4))
    (λ there. (there.0, x, there.1, there.2, refl))
    (decides_any (λ y. same y x) (λ y. y ≡ x) (λ y. decides y x) xs)

-- a filter keeps apart what was apart
all_filtered : {X : Type 0} (p : X → Bool) (P : X → Type 0) (xs : List X) → AllByRecursion P xs → AllByRecursion P
    (filter p xs)
all_filtered p P xs all = recursion_from_All P (filter p xs) (All-filter p P xs (All-from_recursion P xs all))

kept_or_not : {X : Type 0} (e : X → X → Bool) (b : Bool) (x : X) (xs : List X) → AllByRecursion (λ y. e x y ≡ false)
    xs → IsDistinct e xs → IsDistinct e (cond b (x ∷ xs) xs)
kept_or_not e true x xs apart distinct = IsDistinct-cons e x xs apart distinct
kept_or_not e false x xs apart distinct = distinct

pub distinct_none : {X : Type 0} (e : X → X → Bool) → IsDistinct e []
distinct_none e = IsDistinct-from_apart e [] (λ i j d before within. absurd (omega arith))

pub distinct_filter : {X : Type 0} (e : X → X → Bool) (p : X → Bool) (xs : List X) → IsDistinct e xs → IsDistinct e
    (filter p xs)
distinct_filter e p [] distinct = distinct
distinct_filter e p (x ∷ xs) distinct =
    kept_or_not e (p x) x (filter p xs) (all_filtered p (λ y. e x y ≡ false) xs (IsDistinct-head e x xs distinct))
    (distinct_filter e p xs (IsDistinct-tail e x xs distinct))

-- a filter that every element passes changes nothing
pub filter_all : {X : Type 0} (p : X → Bool) (xs : List X) → All (λ x. p x ≡ true) xs → filter p xs ≡ xs
filter_all p [] passes = refl
filter_all p (x ∷ xs) passes =
    cond-true (p x) (x ∷ filter p xs) (filter p xs) (passes 0 x (omega arith))
    ∙ ap (λ rest. x ∷ rest) (filter_all p xs (λ k d below. passes (suc k) d (omega arith)))
