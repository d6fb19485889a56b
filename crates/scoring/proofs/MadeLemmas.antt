-- What a contract that is made can score.
use Rattle.std.proofs.Common.{ℕ, ◌+◌, ◌-◌, ◌*◌, ◌≤◌, Bool, true, false, arith}
use Rattle.std.proofs.lemmas.Bool.Decides.{nat_tests}
use Rattle.table_terms.specs.declared.strain.Strain.{Strain}
use Rattle.table_terms.specs.declared.strain.Strain.TheVariants.{Spades, Hearts, Diamonds, Clubs, NoTrump}
use Rattle.scoring.specs.declared.contract.Contract.{Contract}
use Rattle.scoring.specs.declared.doubling.Doubling.{Doubling}
use Rattle.scoring.specs.declared.doubling.Doubling.TheVariants.{Undoubled, Doubled, Redoubled}
use Rattle.scoring.specs.Law77.{
  first_odd_trick,
  trick_value,
  factor,
  trick_score,
  slam,
  game_or_partscore,
  overtrick,
  doubled_contract,
  made_score,
}

-- odd tricks before they are doubled
undoubled_most : (strain : Strain) (level : ℕ) → 1 ≤ level → first_odd_trick strain + (level - 1) * trick_value strain ≤
    30 * level + 10
undoubled_most Spades level h = omega arith
undoubled_most Hearts level h = omega arith
undoubled_most Diamonds level h = omega arith
undoubled_most Clubs level h = omega arith
undoubled_most NoTrump level h = omega arith

doubled_most : (doubling : Doubling) (points : ℕ) → points * factor doubling ≤ 4 * points
doubled_most Undoubled points = omega arith
doubled_most Doubled points = omega arith
doubled_most Redoubled points = omega arith

overtricks_most : (vulnerable : Bool) (strain : Strain) (doubling : Doubling) (count : ℕ) → count * overtrick vulnerable
    strain doubling ≤ 400 * count
overtricks_most vulnerable Spades Undoubled count = omega arith
overtricks_most vulnerable Hearts Undoubled count = omega arith
overtricks_most vulnerable Diamonds Undoubled count = omega arith
overtricks_most vulnerable Clubs Undoubled count = omega arith
overtricks_most vulnerable NoTrump Undoubled count = omega arith
overtricks_most false strain Doubled count = omega arith
overtricks_most true strain Doubled count = omega arith
overtricks_most false strain Redoubled count = omega arith
overtricks_most true strain Redoubled count = omega arith

slam_most : (vulnerable : Bool) (level : ℕ) → slam vulnerable level ≤ 300 * (level - 2)
slam_most false level = grind (arith, nat_tests)
slam_most true level = grind (arith, nat_tests)

game_most : (vulnerable : Bool) (tricks : ℕ) → game_or_partscore vulnerable tricks ≤ 500
game_most false tricks = grind (arith, nat_tests)
game_most true tricks = grind (arith, nat_tests)

doubled_contract_most : (doubling : Doubling) → doubled_contract doubling ≤ 100
doubled_contract_most Undoubled = omega arith
doubled_contract_most Doubled = omega arith
doubled_contract_most Redoubled = omega arith

-- the greatest score is that of 1NT redoubled, vulnerable, with six overtricks
pub made_score_most : (contract : Contract) (vulnerable : Bool) (overtricks : ℕ) → 1 ≤ contract.level →
    contract.level + overtricks ≤ 7 → made_score contract vulnerable overtricks ≤ 3160
made_score_most contract vulnerable overtricks least most =
    let undoubled = undoubled_most contract.strain contract.level least in
    let tricks = doubled_most contract.doubling (first_odd_trick contract.strain + (contract.level - 1) * trick_value
    contract.strain) in
    let slam_part = slam_most vulnerable contract.level in
    let game_part = game_most vulnerable (trick_score contract) in
    let doubled_part = doubled_contract_most contract.doubling in
    let over = overtricks_most vulnerable contract.strain contract.doubling overtricks in
    omega arith
