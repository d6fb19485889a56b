-- Sets of small numbers, each as the list of its numbers in ascending order.
use Rattle.std.specs.Prelude.{◌≡◌, ℕ, Bool, true, ◌||◌, ◌&&◌, not, nat_eq, List, filter}
use Rattle.std.specs.List.{list_any, range_with_len}

-- whether a number is among them
abbrev pub has_number : List ℕ → ℕ → Bool
has_number numbers k = list_any (nat_eq k) numbers

-- the numbers from 1 to the most that pass a test, in ascending order
abbrev pub numbers_that : ℕ → (ℕ → Bool) → List ℕ
numbers_that most test = filter test (range_with_len 1 most)

-- the list has each of its numbers once, in ascending order, and none but those from 1 to the most
abbrev pub IsSetUpTo : ℕ → List ℕ → Type 0
IsSetUpTo most numbers = numbers ≡ numbers_that most (has_number numbers)

-- with one number more
abbrev pub with_number : ℕ → List ℕ → ℕ → List ℕ
with_number most numbers k = numbers_that most (λ n. nat_eq n k || has_number numbers n)

-- without one number
abbrev pub without_number : ℕ → List ℕ → ℕ → List ℕ
without_number most numbers k = numbers_that most (λ n. not (nat_eq n k) && has_number numbers n)

-- the numbers of two sets
abbrev pub numbers_of_both : ℕ → List ℕ → List ℕ → List ℕ
numbers_of_both most a b = numbers_that most (λ n. has_number a n || has_number b n)

-- every number of the first list is in the second
abbrev pub AreAmong : List ℕ → List ℕ → Type 0
AreAmong a b = (k : ℕ) → has_number a k ≡ true → has_number b k ≡ true
