-- The numbers from 1 on, with one number more.
use Rattle.std.proofs.Common.{◌≡◌, ℕ, ◌+◌, Bool, true, false, [], ◌∷◌, ◌++◌, map, ap, ◌∙◌, arith}
use Rattle.std.specs.Prelude.{cond}
use Rattle.std.specs.List.{range_with_len}
use Rattle.std.proofs.lemmas.List.{append-nil}
use Rattle.std.proofs.lemmas.List.FromFn.{map-range_with_len_more}
use Rattle.small_sets.specs.NumberBits.{numbers_more}
use Rattle.small_sets.specs.Numbers.{numbers_that}

-- where the next number passes the test it is among those that do
pub numbers_with_next : (test : ℕ → Bool) (n : ℕ) → test (n + 1) ≡ true
    → numbers_that (n + 1) test ≡ numbers_that n test ++ (n + 1) ∷ []
numbers_with_next test n passes =
    numbers_more test n ∙ ap (λ b. numbers_that n test ++ cond b ((n + 1) ∷ []) []) passes

-- and where it fails they are as before
pub numbers_without_next : (test : ℕ → Bool) (n : ℕ) → test (n + 1) ≡ false
    → numbers_that (n + 1) test ≡ numbers_that n test
numbers_without_next test n fails =
    numbers_more test n
    ∙ ap (λ b. numbers_that n test ++ cond b ((n + 1) ∷ []) []) fails
    ∙ append-nil (numbers_that n test)

-- what is made of each number, with one number more
pub map_with_next : {X : Type 0} (f : ℕ → X) (n : ℕ)
    → map f (range_with_len 1 (n + 1)) ≡ map f (range_with_len 1 n) ++ f (n + 1) ∷ []
map_with_next f n = map-range_with_len_more f 1 n (n + 1) (omega arith)
