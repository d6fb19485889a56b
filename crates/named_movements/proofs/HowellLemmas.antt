-- In a Howell with all its rounds each pair meets each other and plays each set.
use Rattle.std.proofs.Common.{◌≡◌, ◌≢◌, ℕ, ◌*◌, ◌<◌, ◌≤◌, Bool, true, false, List, refl, arith}
use Rattle.std.specs.Prelude.{◌&&◌, ◌||◌, nat_eq, Any}
use Rattle.std.specs.List.{list_all, list_any, range_with_len}
use Rattle.std.proofs.lemmas.Bool.{and_parts, eqb-true}
use Rattle.std.proofs.lemmas.Bool.Decides.{nat_tests}
use Rattle.std.proofs.lemmas.List.Folds.{Any-from_list_any}
use Rattle.movement.specs.Sound.{Seats, seats}
use Rattle.movement.specs.declared.row.Row.{Row}
use Rattle.movement.proofs.ScheduleTests.{any_as, seats_decides}
use Rattle.named_movements.specs.Howell.{pair_of_number, howell_sets}
use Rattle.named_movements.specs.Words.{can_have_tables, rows_of_word}
use Rattle.named_movements.specs.declared.movement_word.MovementWord.TheVariants.{Howell}
use Rattle.named_movements.proofs.GoneThroughLemmas.{passes}

-- whether some row seats both pairs
abbrev meet_in : ℕ → List Row → ℕ → ℕ → Bool
meet_in tables rows pair other =
    nat_eq pair other
    || list_any (λ row. seats row (pair_of_number tables pair) && seats row (pair_of_number tables other)) rows

-- whether some row seats the pair at the set
abbrev plays_in : ℕ → List Row → ℕ → ℕ → Bool
plays_in tables rows pair set = list_any (λ row. seats row (pair_of_number tables pair) && nat_eq row.set set) rows

abbrev all_meet : ℕ → List Row → Bool
all_meet tables rows =
    list_all (λ pair. list_all (meet_in tables rows pair) (range_with_len 1 (2 * tables))) (range_with_len 1 (2 * tables))

abbrev all_play : ℕ → List Row → Bool
all_play tables rows =
    list_all (λ pair. list_all (plays_in tables rows pair) (range_with_len 1 (howell_sets tables)))
    (range_with_len 1 (2 * tables))

abbrev whole : ℕ → List Row
whole tables = rows_of_word Howell tables (howell_sets tables)

meetings : list_all (λ tables. all_meet tables (whole tables)) (range_with_len 3 6) ≡ true
unfolding rows_of_word
meetings = refl

plays_of_sets : list_all (λ tables. all_play tables (whole tables)) (range_with_len 3 6) ≡ true
unfolding rows_of_word
plays_of_sets = refl

-- what a word's tables are
few : (tables : ℕ) → can_have_tables Howell tables ≡ true → (3 ≤ tables) × (tables < 9)
few tables has_tables = (grind (arith, nat_tests), grind (arith, nat_tests))

-- of two tests one of which fails, the other passes
other_passes : (x y : Bool) → (x || y) ≡ true → x ≢ true → y ≡ true
other_passes true y passed fails = absurd (fails refl)
other_passes false y passed fails = passed

pub meets : (tables pair other : ℕ) → can_have_tables Howell tables ≡ true → 1 ≤ pair → pair ≤ 2 * tables → 1 ≤ other →
    other ≤ 2 * tables → pair ≢ other →
    Any (λ row. Seats row (pair_of_number tables pair) × Seats row (pair_of_number tables other)) (whole tables)
meets tables pair other has_tables from to from_other to_other differ =
    let all = passes (λ n. all_meet n (whole n)) 3 6 tables meetings (few tables has_tables).0 (few tables has_tables).1 in
    let with_pair = passes (λ n. list_all (meet_in tables (whole tables) n) (range_with_len 1 (2 * tables))) 1 (2 * tables)
    pair all from (omega arith) in
    let both = passes (meet_in tables (whole tables) pair) 1 (2 * tables) other with_pair from_other (omega arith) in
    any_as (λ row. (seats row (pair_of_number tables pair) && seats row (pair_of_number tables other)) ≡ true)
    (λ row. Seats row (pair_of_number tables pair) × Seats row (pair_of_number tables other)) (whole tables)
    (λ row holds. (
      (seats_decides row (pair_of_number tables pair)).0 (and_parts _ _ holds).0,
      (seats_decides row (pair_of_number tables other)).0 (and_parts _ _ holds).1,
    ))
    (Any-from_list_any _ (whole tables) (other_passes _ _ both (λ same. differ (eqb-true pair other same))))

pub plays : (tables pair set : ℕ) → can_have_tables Howell tables ≡ true → 1 ≤ pair → pair ≤ 2 * tables → 1 ≤ set →
    set ≤ howell_sets tables → Any (λ row. Seats row (pair_of_number tables pair) × (row.set ≡ set)) (whole tables)
plays tables pair set has_tables from to from_set to_set =
    let all = passes (λ n. all_play n (whole n)) 3 6 tables plays_of_sets (few tables has_tables).0 (few tables has_tables).1 in
    let with_pair = passes (λ n. list_all (plays_in tables (whole tables) n) (range_with_len 1 (howell_sets tables))) 1
    (2 * tables) pair all from (omega arith) in
    let holds = passes (plays_in tables (whole tables) pair) 1 (howell_sets tables) set with_pair from_set (omega arith) in
    any_as (λ row. (seats row (pair_of_number tables pair) && nat_eq row.set set) ≡ true)
    (λ row. Seats row (pair_of_number tables pair) × (row.set ≡ set)) (whole tables)
    (λ row holds. (
      (seats_decides row (pair_of_number tables pair)).0 (and_parts _ _ holds).0,
      eqb-true row.set set (and_parts _ _ holds).1,
    ))
    (Any-from_list_any _ (whole tables) holds)
