-- Undertricks in closed form.
use Rattle.std.proofs.Common.{◌≡◌, ℕ, zero, suc, ◌+◌, ◌*◌, ◌≤◌, Bool, true, false, refl, arith}
use Rattle.scoring.specs.declared.doubling.Doubling.TheVariants.{Undoubled, Doubled, Redoubled}
use Rattle.scoring.specs.Law77.{undertrick, undertricks}

-- undoubled, each undertrick costs the same
each_undoubled : (k : ℕ) → undertrick false Undoubled k ≡ 50
each_undoubled zero = refl
each_undoubled (suc zero) = refl
each_undoubled (suc (suc zero)) = refl
each_undoubled (suc (suc (suc k))) = refl

each_undoubled_vulnerable : (k : ℕ) → undertrick true Undoubled k ≡ 100
each_undoubled_vulnerable zero = refl
each_undoubled_vulnerable (suc zero) = refl
each_undoubled_vulnerable (suc (suc zero)) = refl
each_undoubled_vulnerable (suc (suc (suc k))) = refl

-- doubled and vulnerable, each after the first costs 300
later_doubled_vulnerable : (k : ℕ) → undertrick true Doubled (suc k) ≡ 300
later_doubled_vulnerable zero = refl
later_doubled_vulnerable (suc zero) = refl
later_doubled_vulnerable (suc (suc k)) = refl

-- redoubled, each costs twice as much as doubled
each_redoubled : (vulnerable : Bool) (k : ℕ) → undertrick vulnerable Redoubled k ≡ 2 * undertrick vulnerable Doubled k
each_redoubled false zero = refl
each_redoubled false (suc zero) = refl
each_redoubled false (suc (suc zero)) = refl
each_redoubled false (suc (suc (suc k))) = refl
each_redoubled true zero = refl
each_redoubled true (suc zero) = refl
each_redoubled true (suc (suc zero)) = refl
each_redoubled true (suc (suc (suc k))) = refl

pub undoubled_undertricks : (k : ℕ) → undertricks false Undoubled k ≡ 50 * k
undoubled_undertricks zero = refl
undoubled_undertricks (suc k) = omega (arith, undoubled_undertricks k, each_undoubled k)

pub undoubled_undertricks_vulnerable : (k : ℕ) → undertricks true Undoubled k ≡ 100 * k
undoubled_undertricks_vulnerable zero = refl
undoubled_undertricks_vulnerable (suc k) = omega (
  arith,
  undoubled_undertricks_vulnerable k,
  each_undoubled_vulnerable
      k,
)

doubled_from_third : (k : ℕ) → undertricks false Doubled (suc (suc (suc k))) ≡ 300 * k + 500
doubled_from_third zero = refl
doubled_from_third (suc k) = omega (arith, doubled_from_third k)

doubled_from_first : (k : ℕ) → undertricks true Doubled (suc k) ≡ 300 * k + 200
doubled_from_first zero = refl
doubled_from_first (suc k) = omega (arith, doubled_from_first k, later_doubled_vulnerable k)

-- up to three doubled undertricks, not vulnerable
pub doubled_undertricks_early : (k : ℕ) → 1 ≤ k → k ≤ 3 → undertricks false Doubled k + 100 ≡ 200 * k
doubled_undertricks_early zero least most = omega arith
doubled_undertricks_early (suc zero) least most = refl
doubled_undertricks_early (suc (suc zero)) least most = refl
doubled_undertricks_early (suc (suc (suc zero))) least most = refl
doubled_undertricks_early (suc (suc (suc (suc k)))) least most = absurd (omega arith)

-- three doubled undertricks or more, not vulnerable
pub doubled_undertricks_late : (k : ℕ) → 3 ≤ k → undertricks false Doubled k + 400 ≡ 300 * k
doubled_undertricks_late zero least = absurd (omega arith)
doubled_undertricks_late (suc zero) least = absurd (omega arith)
doubled_undertricks_late (suc (suc zero)) least = absurd (omega arith)
doubled_undertricks_late (suc (suc (suc k))) least = omega (arith, doubled_from_third k)

pub doubled_undertricks_vulnerable : (k : ℕ) → 1 ≤ k → undertricks true Doubled k + 100 ≡ 300 * k
doubled_undertricks_vulnerable zero least = absurd (omega arith)
doubled_undertricks_vulnerable (suc k) least = omega (arith, doubled_from_first k)

pub redoubled_undertricks : (vulnerable : Bool) (k : ℕ) → undertricks vulnerable Redoubled k ≡ 2 * undertricks
    vulnerable Doubled k
redoubled_undertricks vulnerable zero = refl
redoubled_undertricks vulnerable (suc k) = omega (
  arith,
  redoubled_undertricks vulnerable k,
  each_redoubled vulnerable
      k,
)
