-- The units of a whole board.
use Rattle.std.proofs.Common.{
  ◌≡◌,
  ℕ,
  zero,
  suc,
  ◌+◌,
  ◌-◌,
  ◌*◌,
  ◌<◌,
  ◌≤◌,
  Bool,
  cond,
  ℤ,
  pos,
  neg_ℤ,
  ◌<ℤ◌,
  List,
  [],
  ◌∷◌,
  length,
  get_or,
  map,
  sum,
  refl,
  ap,
  arith,
}
use Rattle.std.proofs.lemmas.Int.{ints}
use Rattle.std.proofs.lemmas.List.Sums.{sum_by-cons, sum_by-le-sum_by}
use Rattle.std.specs.List.{count_by, sum_by}
use Rattle.std.specs.Ordering.{int_eq}
use Rattle.std.specs.Int.RustNames.{int_lt, int_le}
use Rattle.scoring.specs.Law78A.{units}
use Rattle.scoring.proofs.MatchpointLemmas.{units-add-one, count_by-le, counts_itself}

abbrev to_number : Bool → ℕ
to_number b = cond b 1 0

-- what a score gets against one other
abbrev against : ℤ → ℤ → ℕ
against mine other = 2 * to_number (int_lt other mine) + to_number (int_eq other mine)

-- what a score gets against a list
abbrev value : ℤ → List ℤ → ℕ
value mine others = 2 * count_by (λ x. int_lt x mine) others + count_by (λ x. int_eq x mine) others

value-cons : (mine y : ℤ) (ys : List ℤ) → value mine (y ∷ ys) ≡ against mine y + value mine ys
value-cons mine y ys =
    omega (arith, sum_by-cons (λ x. to_number (int_lt x mine)) y ys, sum_by-cons (λ x. to_number (int_eq x mine)) y ys)

-- two scores share two units
shared : (x y : ℤ) → against x y + against y x ≡ 2
shared x y = grind (arith, ints)

value-shared : (y : ℤ) (xs : List ℤ) → value y xs + sum_by (λ x. against x y) xs ≡ 2 * length xs
value-shared y [] = refl
value-shared y (x ∷ xs) =
    omega (arith, value-cons y x xs, sum_by-cons (λ z. against z y) x xs, shared x y, value-shared y xs)

values-cons : (y : ℤ) (ys xs : List ℤ) → sum_by (λ x. value x (y ∷ ys)) xs ≡ sum_by (λ x. against x y) xs + sum_by
    (λ x. value x ys) xs
values-cons y ys [] = refl
values-cons y ys (x ∷ xs) =
    omega (
      arith,
      sum_by-cons (λ z. value z (y ∷ ys)) x xs,
      sum_by-cons (λ z. against z y) x xs,
      sum_by-cons (λ z. value z ys) x xs,
      value-cons x y ys,
      values-cons y ys xs,
    )

values-nil : (xs : List ℤ) → sum_by (λ x. value x []) xs ≡ 0
values-nil [] = refl
values-nil (x ∷ xs) = omega (arith, sum_by-cons (λ z. value z []) x xs, values-nil xs)

all_shared : (xs ys : List ℤ) → sum_by (λ y. value y xs) ys + sum_by (λ x. value x ys) xs ≡ 2 * (length xs * length ys)
all_shared xs [] = omega (arith, values-nil xs)
all_shared xs (y ∷ ys) =
    omega (arith, sum_by-cons (λ z. value z xs) y ys, values-cons y ys xs, value-shared y xs, all_shared xs ys)

-- a list of numbers, each one less than f of the entry beside it
sum-beside : (f : ℤ → ℕ) (points : List ℕ) (xs : List ℤ) → length points ≡ length xs →
    ((i : ℕ) → i < length xs → get_or points i 0 + 1 ≡ f (get_or xs i (pos 0))) → sum points + length xs ≡ sum_by f xs
sum-beside f [] [] same each = refl
sum-beside f [] (x ∷ xs) same each = absurd (omega arith)
sum-beside f (p ∷ points) [] same each = absurd (omega arith)
sum-beside f (p ∷ points) (x ∷ xs) same each =
    let rest = sum-beside f points xs (omega arith) (λ i h. each (suc i) (omega arith)) in
    omega (arith, sum_by-cons (λ n. n) p points, sum_by-cons f x xs, each 0 (omega arith), rest)

square : (m total : ℕ) → total + m ≡ m * m → total ≡ m * (m - 1)
square zero total h = omega arith
square (suc m) total h = let less : suc m - 1 ≡ m = omega arith in rw less (omega arith)

pub units-sum : (scores : List ℤ) (points : List ℕ) → length points ≡ length scores →
    ((i : ℕ) → i < length scores → get_or points i 0 ≡ units scores i) → sum points ≡ length scores *
    (length scores - 1)
units-sum scores points same each =
    let beside = sum-beside (λ mine. value mine scores) points scores same
    (λ i h. omega (arith, each i h, units-add-one scores i h)) in
    square (length scores) (sum points) (omega (arith, beside, all_shared scores scores))

-- ---- the other side

lt-neg : (x y : ℤ) → int_lt (neg_ℤ x) (neg_ℤ y) ≡ int_lt y x
lt-neg x y = grind (arith, ints)

shared_between : (mine y : ℤ) → against mine y + against (neg_ℤ mine) (neg_ℤ y) ≡ 2
shared_between mine y = rw (lt-neg y mine, lt-neg mine y) (grind (arith, ints))

value-neg : (mine : ℤ) (xs : List ℤ) → value mine xs + value (neg_ℤ mine) (map neg_ℤ xs) ≡ 2 * length xs
value-neg mine [] = refl
value-neg mine (x ∷ xs) =
    omega (
      arith,
      value-cons mine x xs,
      value-cons (neg_ℤ mine) (neg_ℤ x) (map neg_ℤ xs),
      shared_between mine x,
      value-neg mine xs,
    )

get_or-neg : (xs : List ℤ) (i : ℕ) → get_or (map neg_ℤ xs) i (pos 0) ≡ neg_ℤ (get_or xs i (pos 0))
get_or-neg [] i = refl
get_or-neg (x ∷ xs) zero = refl
get_or-neg (x ∷ xs) (suc i) = get_or-neg xs i

length-neg : (xs : List ℤ) → length (map neg_ℤ xs) ≡ length xs
length-neg [] = refl
length-neg (x ∷ xs) = ap suc (length-neg xs)

pub units-neg : (scores : List ℤ) (i : ℕ) → i < length scores → units scores i + units (map neg_ℤ scores) i ≡ 2 *
    (length scores - 1)
units-neg scores i inside =
    let mine = get_or scores i (pos 0) in
    let other = units-add-one (map neg_ℤ scores) i (omega (arith, length-neg scores)) in
    let at = ap (λ z. value z (map neg_ℤ scores)) (get_or-neg scores i) in
    omega (arith, units-add-one scores i inside, other, at, value-neg mine scores)

-- ---- better scores

reaches : (t u x : ℤ) → t <ℤ u → to_number (int_le x t) ≤ to_number (int_lt x u)
reaches t u x h = grind (arith, ints)

pub units-lt : (scores : List ℤ) (i j : ℕ) → i < length scores → j < length scores → get_or scores i (pos 0) <ℤ get_or
    scores j (pos 0) → units scores i < units scores j
units-lt scores i j i_inside j_inside better =
    let mine = get_or scores i (pos 0) in
    let theirs = get_or scores j (pos 0) in
    let below = sum_by-le-sum_by (λ x. to_number (int_le x mine)) (λ x. to_number (int_lt x theirs)) scores
    (λ x. reaches mine theirs x better) in
    omega (
      arith,
      below,
      count_by-le mine scores,
      counts_itself scores i i_inside,
      counts_itself scores j j_inside,
      units-add-one scores i i_inside,
      units-add-one scores j j_inside,
    )

pub units-same : (scores : List ℤ) (i j : ℕ) → i < length scores → j < length scores → get_or scores i (pos 0) ≡ get_or
    scores j (pos 0) → units scores i ≡ units scores j
units-same scores i j i_inside j_inside same =
    omega (arith, ap (λ z. value z scores) same, units-add-one scores i i_inside, units-add-one scores j j_inside)
