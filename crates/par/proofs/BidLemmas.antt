-- The bids are those of Law 18, in its order.
use Rattle.std.proofs.Common.{◌≡◌, ℕ, zero, suc, ◌+◌, ◌-◌, ◌*◌, ◌/◌, ◌%◌, ◌<◌, ◌≤◌, inl, inr, refl, ap, ◌∙◌, arith}
use Rattle.std.proofs.lemmas.Bool.{cases_lt}
use Rattle.table_terms.specs.declared.strain.Strain.{Strain}
use Rattle.table_terms.specs.declared.strain.Strain.TheVariants.{Spades, Hearts, Diamonds, Clubs, NoTrump}
use Rattle.par.specs.Bid.{all_bids, strain_below}
use Rattle.par.specs.Laws.{IsBid, Outranks, strains_above}

-- the strain that so many outrank
above_below : (count : ℕ) → count < 5 → strains_above (strain_below count) ≡ count
above_below zero few = refl
above_below (suc zero) few = refl
above_below (suc (suc zero)) few = refl
above_below (suc (suc (suc zero))) few = refl
above_below (suc (suc (suc (suc zero)))) few = refl
above_below (suc (suc (suc (suc (suc count))))) few = absurd (omega arith)

below_above : (strain : Strain) → strain_below (strains_above strain) ≡ strain
below_above NoTrump = refl
below_above Spades = refl
below_above Hearts = refl
below_above Diamonds = refl
below_above Clubs = refl

above_few : (strain : Strain) → strains_above strain < 5
above_few NoTrump = omega arith
above_few Spades = omega arith
above_few Hearts = omega arith
above_few Diamonds = omega arith
above_few Clubs = omega arith

-- fewer bids outrank the one that outranks
pub in_order : (one other : ℕ) → one < other → other < all_bids → Outranks one other
in_order one other before few = elim (cases_lt (one / 5) (other / 5)) [
  | inl lower ↦ inl (omega arith)
  | inr same ↦
      let ours = above_below (one % 5) (omega arith) in
      let theirs = above_below (other % 5) (omega arith) in
      inr (omega arith, omega (arith, ours, theirs))
]

-- the number of the bid of a level in a strain
pub each_bid : (level : ℕ) (strain : Strain) → 1 ≤ level → level ≤ 7 → (higher : ℕ) × IsBid level strain higher
each_bid level strain least most =
    let few = above_few strain in
    let higher = 5 * (7 - level) + strains_above strain in
    let rest : higher % 5 ≡ strains_above strain = omega arith in (
      higher,
      record {
        one_of_all = omega arith;
        of_level = omega arith;
        in_strain = ap strain_below rest ∙ below_above strain;
      },
    )
