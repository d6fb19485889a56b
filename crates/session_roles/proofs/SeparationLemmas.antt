-- The first separation set that passes a test.
use Rattle.std.proofs.Common.{◌≡◌, ◌<◌, Bool, true, false, cond, Option, Some, None, refl, sym, subst, arith}
use Rattle.std.specs.Prelude.{find}
use Rattle.session_roles.specs.declared.separation_set.SeparationSet.{SeparationSet}
use Rattle.session_roles.specs.declared.separation_set.SeparationSet.TheVariants.{S1, S2, S3, S4}
use Rattle.session_roles.specs.Separation.{separation_sets, set_number}

-- the set passes the test, and none before it does
pub record IsFirstSet (test : SeparationSet → Bool) (set : SeparationSet) : Type 0 where
  pub passes : test set ≡ true
  pub before : (other : SeparationSet) → set_number other < set_number set → test other ≡ false

before_first : (test : SeparationSet → Bool) (other : SeparationSet) → set_number other < 0 → test other ≡ false
before_first test S1 before = absurd (omega arith)
before_first test S2 before = absurd (omega arith)
before_first test S3 before = absurd (omega arith)
before_first test S4 before = absurd (omega arith)

before_second : (test : SeparationSet → Bool) → test S1 ≡ false → (other : SeparationSet) → set_number other < 1 →
    test other ≡ false
before_second test one S1 before = one
before_second test one S2 before = absurd (omega arith)
before_second test one S3 before = absurd (omega arith)
before_second test one S4 before = absurd (omega arith)

before_third : (test : SeparationSet → Bool) → test S1 ≡ false → test S2 ≡ false → (other : SeparationSet) →
    set_number other < 2 → test other ≡ false
before_third test one two S1 before = one
before_third test one two S2 before = two
before_third test one two S3 before = absurd (omega arith)
before_third test one two S4 before = absurd (omega arith)

before_fourth : (test : SeparationSet → Bool) → test S1 ≡ false → test S2 ≡ false → test S3 ≡ false →
    (other : SeparationSet) → set_number other < 3 → test other ≡ false
before_fourth test one two three S1 before = one
before_fourth test one two three S2 before = two
before_fourth test one two three S3 before = three
before_fourth test one two three S4 before = absurd (omega arith)

-- what is found, by the answers of the test
Found : (SeparationSet → Bool) → Option SeparationSet → Type 0
Found test (Some set) = IsFirstSet test set
Found test None = (set : SeparationSet) → test set ≡ false

fails_all : (test : SeparationSet → Bool) → test S1 ≡ false → test S2 ≡ false → test S3 ≡ false → test S4 ≡ false →
    (set : SeparationSet) → test set ≡ false
fails_all test one two three four S1 = one
fails_all test one two three four S2 = two
fails_all test one two three four S3 = three
fails_all test one two three four S4 = four

by_answers : (test : SeparationSet → Bool) (a b c d : Bool) → a ≡ test S1 → b ≡ test S2 → c ≡ test S3 →
    d ≡ test S4 → Found test (cond a (Some S1) (cond b (Some S2) (cond c (Some S3) (cond d (Some S4) None))))
unfolding Found
by_answers test true b c d one two three four = record { passes = sym one; before = before_first test }
by_answers test false true c d one two three four = record { passes = sym two; before = before_second test (sym one) }
by_answers test false false true d one two three four = record {
  passes = sym three;
  before = before_third test (sym one)
      (sym two);
}
by_answers test false false false true one two three four = record {
  passes = sym four;
  before = before_fourth test (sym one)
      (sym two) (sym three);
}
by_answers test false false false false one two three four = fails_all test (sym one) (sym two) (sym three) (sym four)

found : (test : SeparationSet → Bool) → Found test (find test separation_sets)
found test = by_answers test (test S1) (test S2) (test S3) (test S4) refl refl refl refl

pub first_found : (test : SeparationSet → Bool) (set : SeparationSet) → Some set ≡ find test separation_sets →
    IsFirstSet test set
unfolding Found
first_found test set is = subst (Found test) (sym is) (found test)

pub none_found : (test : SeparationSet → Bool) → None ≡ find test separation_sets → (set : SeparationSet) →
    test set ≡ false
unfolding Found
none_found test is = subst (Found test) (sym is) (found test)
