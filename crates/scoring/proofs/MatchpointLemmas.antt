-- Matchpoint units by counts in the whole list of scores, and by places in the sorted list.
use Rattle.std.proofs.Common.{
  ◌≡◌,
  ℕ,
  zero,
  suc,
  ◌+◌,
  ◌-◌,
  ◌*◌,
  ◌<◌,
  ◌≤◌,
  Bool,
  true,
  false,
  cond,
  ℤ,
  pos,
  ◌≤ℤ◌,
  List,
  [],
  ◌∷◌,
  length,
  get_or,
  take,
  ◌++◌,
  below_more,
  refl,
  sym,
  ap,
  ◌∙◌,
  subst,
  arith,
  add-one,
}
use Rattle.std.proofs.lemmas.Int.{ints}
use Rattle.std.proofs.lemmas.List.{take_all, get_or_append_left, get_or_push}
use Rattle.std.proofs.lemmas.List.Sums.{count_by_more_yes, count_by_more_no, sum_by-cons, sum_by-remove}
use Rattle.std.proofs.lemmas.List.Sorted.{sorted_far, ranks_by, sum_by-IsPermutation}
use Rattle.std.specs.Cmp.{int_cmp_total}
use Rattle.std.specs.List.{count_by, AllWithin}
use Rattle.std.specs.List.Sorted.{IsSorted, IsPartitionedBy, IsPartitionPoint, IsPermutation}
use Rattle.std.specs.Ordering.{int_cmp, int_eq, is_lt}
use Rattle.std.specs.Int.RustNames.{int_lt, int_le}
use Rattle.scoring.specs.Law78A.{units}

-- ---- a partition point counts

count_passed : (p : ℤ → Bool) (xs : List ℤ) (i j : ℕ) → AllWithin (λ y. p y ≡ true) xs 0 i → i ≤ length xs → j ≤ i →
    count_by p (take j xs) ≡ j
count_passed p xs i zero all inside low = refl
count_passed p xs i (suc j) all inside low =
    let step = count_by_more_yes p xs j (pos 0) (omega arith) (all j (pos 0) (omega arith) (omega arith)) in
    let before = count_passed p xs i j all inside (omega arith) in
    ap (λ n. count_by p (take n xs)) (sym (add-one j)) ∙ step ∙ omega (arith, before)

count_failed : (p : ℤ → Bool) (xs : List ℤ) (i k : ℕ) → AllWithin (λ y. p y ≡ false) xs i (length xs) →
    i + k ≤ length xs → count_by p (take (i + k) xs) ≡ count_by p (take i xs)
count_failed p xs i zero none inside = ap (λ n. count_by p (take n xs)) (omega arith)
count_failed p xs i (suc k) none inside =
    let step = count_by_more_no p xs (i + k) (pos 0) (omega arith) (none (i + k) (pos 0) (omega arith) (omega arith)) in
    let before = count_failed p xs i k none (omega arith) in
    ap (λ n. count_by p (take n xs)) (omega arith) ∙ step ∙ before

-- where all that pass come first, there are as many as stand before the partition point
pub count_by-partition_point : (p : ℤ → Bool) (xs : List ℤ) (i : ℕ) → i ≤ length xs → IsPartitionPoint (λ y. p y ≡ true)
    (λ y. p y ≡ false) xs i → count_by p xs ≡ i
count_by-partition_point p xs i inside point =
    let whole : take (i + (length xs - i)) xs ≡ xs = take_all _ xs (omega arith) in
    ap (count_by p) (sym whole)
    ∙ count_failed p xs i (length xs - i) point.1 (omega arith)
    ∙ count_passed p xs i i point.0 inside (omega arith)

-- ---- a sorted list is parted at every score

rising : (xs : List ℤ) → IsSorted int_cmp xs → (i j : ℕ) (d : ℤ) → i ≤ j → j < length xs → get_or xs i d ≤ℤ get_or xs j
    d
rising xs sorted i j d low inside =
    let apart = sorted_far (λ x y. is_lt (int_cmp x y)) (ranks_by int_cmp_total (λ x. x)) xs sorted i j d low inside in
    not_under (get_or xs i d) (get_or xs j d) apart
  where
    not_under : (x y : ℤ) → is_lt (int_cmp y x) ≡ false → x ≤ℤ y
    not_under x y h = grind (arith, ints)

lower_passes : (t x y : ℤ) → x ≤ℤ y → int_lt y t ≡ true → int_lt x t ≡ true
lower_passes t x y h g = grind (arith, ints)

lower_reaches : (t x y : ℤ) → x ≤ℤ y → int_le y t ≡ true → int_le x t ≡ true
lower_reaches t x y h g = grind (arith, ints)

pub parted_below : (xs : List ℤ) (t : ℤ) → IsSorted int_cmp xs → IsPartitionedBy (λ y. int_lt y t) xs
parted_below xs t sorted i j d low inside h = lower_passes t _ _ (rising xs sorted i j d low inside) h

pub parted_to : (xs : List ℤ) (t : ℤ) → IsSorted int_cmp xs → IsPartitionedBy (λ y. int_le y t) xs
parted_to xs t sorted i j d low inside h = lower_reaches t _ _ (rising xs sorted i j d low inside) h

-- ---- counts

below_or_equal : (t x : ℤ) → cond (int_le x t) 1 0 ≡ cond (int_lt x t) 1 0 + cond (int_eq x t) 1 0
below_or_equal t x = grind (arith, ints)

-- those that a score beats or equals
pub count_by-le : (t : ℤ) (xs : List ℤ) → count_by (λ x. int_le x t) xs ≡ count_by (λ x. int_lt x t) xs + count_by
    (λ x. int_eq x t) xs
count_by-le t [] = refl
count_by-le t (x ∷ xs) =
    let le = sum_by-cons (λ y. cond (int_le y t) 1 0) x xs in
    let lt = sum_by-cons (λ y. cond (int_lt y t) 1 0) x xs in
    let eq = sum_by-cons (λ y. cond (int_eq y t) 1 0) x xs in
    omega (arith, le, lt, eq, below_or_equal t x, count_by-le t xs)

abbrev to_number : Bool → ℕ
to_number b = cond b 1 0

not_below_itself : (x : ℤ) → int_lt x x ≡ false
not_below_itself x = grind (arith, ints)

equals_itself : (x : ℤ) → int_eq x x ≡ true
equals_itself x = grind (arith, ints)

-- units and one more, for the score itself, by counts in the whole list
pub units-add-one : (scores : List ℤ) (i : ℕ) → i < length scores → units scores i + 1 ≡ 2 * count_by
    (λ x. int_lt x (get_or scores i (pos 0))) scores + count_by (λ x. int_eq x (get_or scores i (pos 0))) scores
units-add-one scores i inside =
    let mine = get_or scores i (pos 0) in
    let below = sum_by-remove (λ x. cond (int_lt x mine) 1 0) scores i (pos 0) inside in
    let equal = sum_by-remove (λ x. cond (int_eq x mine) 1 0) scores i (pos 0) inside in
    let none = ap (λ b. to_number b) (not_below_itself mine) in
    let one = ap (λ b. to_number b) (equals_itself mine) in
    omega (arith, below, equal, none, one)

pub count_by-permutation : (p : ℤ → Bool) (xs ys : List ℤ) → IsPermutation xs ys → count_by p ys ≡ count_by p xs
count_by-permutation p xs ys moved = sum_by-IsPermutation (λ x. cond (p x) 1 0) xs ys moved

-- a score that is in the list equals itself
pub counts_itself : (scores : List ℤ) (i : ℕ) → i < length scores → 1 ≤ count_by
    (λ x. int_eq x (get_or scores i (pos 0))) scores
counts_itself scores i inside =
    let mine = get_or scores i (pos 0) in
    let equal = sum_by-remove (λ x. cond (int_eq x mine) 1 0) scores i (pos 0) inside in
    let one = ap (λ b. to_number b) (equals_itself mine) in
    omega (arith, equal, one)

-- a score of the board stands in the sorted list
pub held_in_sorted : (scores sorted : List ℤ) (i : ℕ) (score : ℤ) → i < length scores → score ≡ get_or scores i
    (pos 0) → IsPermutation scores sorted → 1 ≤ count_by (λ x. int_eq x score) sorted
held_in_sorted scores sorted i score inside is moved =
    let P : ℤ → Type 0 = λ z. 1 ≤ count_by (λ x. int_eq x z) sorted in
    let mine = get_or scores i (pos 0) in
    subst P (sym is) (omega (
      arith,
      count_by-permutation (λ x. int_eq x mine) scores sorted moved,
      counts_itself scores
          i inside,
    ))

-- units by counts in the sorted list
pub units_from_sorted : (scores sorted : List ℤ) (i : ℕ) (score : ℤ) (result : ℕ) → i < length scores →
    score ≡ get_or scores i (pos 0) → IsPermutation scores sorted → result + 1 ≡ 2 * count_by (λ x. int_lt x score)
    sorted + count_by (λ x. int_eq x score) sorted → result ≡ units scores i
units_from_sorted scores sorted i score result inside is moved counted =
    let P : ℤ → Type 0 = λ z. result + 1 ≡ 2 * count_by (λ x. int_lt x z) sorted + count_by (λ x. int_eq x z) sorted in
    let mine = get_or scores i (pos 0) in
    let at_mine = subst P is counted in
    omega (
      arith,
      at_mine,
      count_by-permutation (λ x. int_lt x mine) scores sorted moved,
      count_by-permutation
          (λ x. int_eq x mine) scores sorted moved,
      units-add-one scores i inside,
    )

-- the sorted copy holds the board's scores
pub moved_from_copy : (scores copy sorted lent : List ℤ) → copy ≡ scores → IsPermutation copy sorted → lent ≡ sorted →
    IsPermutation scores lent
moved_from_copy scores copy sorted lent copied moved same = rw (same, ← copied) moved

-- one more score has its units
pub units_more : (scores : List ℤ) (points more : List ℕ) (i result : ℕ) → length points ≡ i →
    ((k : ℕ) → k < i → get_or points k 0 ≡ units scores k) → result ≡ units scores i → more ≡ points ++ result ∷ [] →
    (k : ℕ) → k < i + 1 → get_or more k 0 ≡ units scores k
units_more scores points more i result counted so_far here is =
    rw is (below_more (λ k. get_or (points ++ result ∷ []) k 0 ≡ units scores k) i
    (λ k h. get_or_append_left points (result ∷ []) 0 k (omega arith) ∙ so_far k h)
    (get_or_push points result 0 i counted ∙ here))
