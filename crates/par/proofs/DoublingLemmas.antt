-- Doubling exactly what will be set is the opponents' best.
use Rattle.std.proofs.Common.{◌≡◌, ℕ, ◌+◌, ◌<◌, ◌≤◌, Bool, ℤ, ◌≤ℤ◌, ◌<ℤ◌, inl, inr, refl, sym, subst, arith}
use Rattle.std.proofs.lemmas.Bool.{cases_lt, le-leb, lt-leb}
use Rattle.std.proofs.lemmas.Int.{ints}
use Rattle.scoring.specs.declared.contract.Contract.{Contract}
use Rattle.scoring.specs.declared.doubling.Doubling.{Doubling}
use Rattle.scoring.specs.declared.doubling.Doubling.TheVariants.{Undoubled, Doubled}
use Rattle.scoring.specs.Law77.{score_of}
use Rattle.scoring.proofs.StakeLemmas.{made-doubled, set-doubled}
use Rattle.par.specs.Auction.{doubling_at}

-- what a contract scores, doubled or not
abbrev scores : Contract → Bool → ℕ → Doubling → ℤ
scores contract vulnerable tricks doubling = score_of (record contract { doubling = doubling }) vulnerable tricks

made : (level tricks : ℕ) → 6 + level ≤ tricks → doubling_at level tricks ≡ Undoubled
made level tricks enough = rw (le-leb (6 + level) tricks enough) refl

set : (level tricks : ℕ) → tricks < 6 + level → doubling_at level tricks ≡ Doubled
set level tricks short = rw (lt-leb (6 + level) tricks short) refl

weaken : (x y : ℤ) → x <ℤ y → x ≤ℤ y
weaken x y h = omega (arith, ints)

same : (x : ℤ) → x ≤ℤ x
same x = omega (arith, ints)

-- declarer's side scores no more so than undoubled
pub no_more_undoubled : (contract : Contract) (vulnerable : Bool) (tricks : ℕ) →
    score_of (record contract { doubling = doubling_at contract.level tricks }) vulnerable tricks ≤ℤ
    score_of (record contract { doubling = Undoubled }) vulnerable tricks
no_more_undoubled contract vulnerable tricks = elim (cases_lt tricks (6 + contract.level)) [
  | inl short ↦ subst (λ (d : Doubling). scores contract vulnerable tricks d ≤ℤ scores contract vulnerable tricks Undoubled)
      (sym (set contract.level tricks short)) (weaken _ _ (set-doubled contract vulnerable tricks short))
  | inr enough ↦ subst
      (λ (d : Doubling). scores contract vulnerable tricks d ≤ℤ scores contract vulnerable tricks Undoubled)
      (sym (made contract.level tricks enough)) (same _)
]

-- nor than doubled
pub no_more_doubled : (contract : Contract) (vulnerable : Bool) (tricks : ℕ) →
    score_of (record contract { doubling = doubling_at contract.level tricks }) vulnerable tricks ≤ℤ
    score_of (record contract { doubling = Doubled }) vulnerable tricks
no_more_doubled contract vulnerable tricks = elim (cases_lt tricks (6 + contract.level)) [
  | inl short ↦ subst (λ (d : Doubling). scores contract vulnerable tricks d ≤ℤ scores contract vulnerable tricks Doubled)
      (sym (set contract.level tricks short)) (same _)
  | inr enough ↦ subst
      (λ (d : Doubling). scores contract vulnerable tricks d ≤ℤ scores contract vulnerable tricks Doubled)
      (sym (made contract.level tricks enough)) (made-doubled contract vulnerable tricks enough)
]
