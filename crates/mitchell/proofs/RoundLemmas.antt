-- The movement's arithmetic, where tables, rounds, sets and pairs are counted from 0.
use Rattle.std.proofs.Common.{◌≡◌, ℕ, ◌+◌, ◌-◌, ◌/◌, ◌%◌, ◌<◌, ◌≤◌, ◌⊎◌, inl, inr, if◌then◌else◌, arith}
use Rattle.std.proofs.lemmas.Bool.{cases_lt}
use Rattle.std.proofs.lemmas.Bool.Decides.{nat_tests}
use Rattle.std.proofs.Math.Nat.{mod-eq_of_lt, mod-eq-sub-mod}
use Rattle.mitchell.specs.Mitchell.{set_on, has_skipped, east_west_table, most_rounds}

-- a number below twice the tables, and the same number taken round them
pub record IsWrapped (tables number wrapped : ℕ) : Type 0 where
  pub below : wrapped < tables
  pub once : (number ≡ wrapped) ⊎ (number ≡ wrapped + tables)

pub wraps : (tables number : ℕ) → number < tables + tables → IsWrapped tables number (number % tables)
wraps tables number small =
    elim (cases_lt number tables) [
      | inl below ↦
          let same : number % tables ≡ number = mod-eq_of_lt below in
          record { below = omega arith; once = inl (omega arith) }
      | inr above ↦
          let less : number - tables < tables = omega arith in
          let same : number % tables ≡ (number - tables) % tables = mod-eq-sub-mod above in
          let rest : (number - tables) % tables ≡ number - tables = mod-eq_of_lt less in
          record { below = omega arith; once = inr (omega arith) }
    ]

-- how many tables the East-West pairs have skipped by a round
abbrev pub skipped : ℕ → ℕ → ℕ
skipped tables round = if has_skipped tables round then 1 else 0

pub skipped_cases : (tables round : ℕ) →
    ((tables % 2 ≡ 0) × (tables / 2 ≤ round) × (skipped tables round ≡ 1)) ⊎
    (((tables % 2 ≡ 1) ⊎ (round < tables / 2)) × (skipped tables round ≡ 0))
skipped_cases tables round = grind (arith, nat_tests)

-- two East-West pairs are at two tables
pub same_pair : (tables first second round : ℕ) → first < tables → second < tables → round < tables →
    east_west_table tables first round ≡ east_west_table tables second round → first ≡ second
same_pair tables first second round first_below second_below round_below same =
    let skip = skipped_cases tables round in
    let first_moved = wraps tables (first + round + skipped tables round) (omega arith) in
    let second_moved = wraps tables (second + round + skipped tables round) (omega arith) in
    omega arith

-- in two rounds a table plays two sets
pub same_round_of_table : (tables table first second : ℕ) → table < tables → first < tables → second < tables →
    set_on tables table first ≡ set_on tables table second → first ≡ second
same_round_of_table tables table first second table_below first_below second_below same =
    let first_held = wraps tables (table + first) (omega arith) in
    let second_held = wraps tables (table + second) (omega arith) in
    omega arith

-- in two rounds an East-West pair plays two sets
pub same_round_of_pair : (tables pair first second : ℕ) → pair < tables → first < tables → second < tables →
    set_on tables (east_west_table tables pair first) first ≡ set_on tables (east_west_table tables pair second)
    second →
    first ≡ second
same_round_of_pair tables pair first second pair_below first_below second_below same =
    let first_skip = skipped_cases tables first in
    let second_skip = skipped_cases tables second in
    let first_moved = wraps tables (pair + first + skipped tables first) (omega arith) in
    let second_moved = wraps tables (pair + second + skipped tables second) (omega arith) in
    let first_held = wraps tables (east_west_table tables pair first + first) (omega arith) in
    let second_held = wraps tables (east_west_table tables pair second + second) (omega arith) in
    omega arith

pub most_rounds_cases : (tables : ℕ) →
    ((tables % 2 ≡ 0) × (most_rounds tables ≡ tables - 1)) ⊎ ((tables % 2 ≡ 1) × (most_rounds tables ≡ tables))
most_rounds_cases tables = grind (arith, nat_tests)

-- in two rounds of a section an East-West pair is at two tables
pub same_round_at_table : (tables pair first second : ℕ) → pair < tables → first < most_rounds tables →
    second < most_rounds tables → east_west_table tables pair first ≡ east_west_table tables pair second →
    first ≡ second
same_round_at_table tables pair first second pair_below first_below second_below same =
    let most = most_rounds_cases tables in
    let first_skip = skipped_cases tables first in
    let second_skip = skipped_cases tables second in
    let first_moved = wraps tables (pair + first + skipped tables first) (omega arith) in
    let second_moved = wraps tables (pair + second + skipped tables second) (omega arith) in
    omega arith

-- the East-West pair that is as far below a table as the pairs have moved up by the round is at that table
pub table_of_moved : (tables table round : ℕ) → table < tables → round < tables →
    east_west_table tables ((table + tables - (round + skipped tables round)) % tables) round ≡ table
table_of_moved tables table round table_below small =
    let skip = skipped_cases tables round in
    let pair : ℕ = (table + tables - (round + skipped tables round)) % tables in
    let back : IsWrapped tables (table + tables - (round + skipped tables round)) pair =
    wraps tables (table + tables - (round + skipped tables round)) (omega arith) in
    let moved = wraps tables (pair + round + skipped tables round) (omega arith) in
    omega arith
