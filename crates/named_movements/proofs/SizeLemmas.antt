-- How large a movement is that a word names.
use Rattle.std.proofs.Common.{◌≡◌, ℕ, ◌*◌, ◌<◌, ◌≤◌, true, arith}
use Rattle.std.proofs.Math.Nat.{mul-le-mul}
use Rattle.std.proofs.lemmas.Bool.Decides.{nat_tests}
use Rattle.named_movements.specs.Words.{can_have_tables, can_have_rounds, sets_of_word}
use Rattle.named_movements.specs.declared.movement_word.MovementWord.{MovementWord}
use Rattle.named_movements.specs.declared.movement_word.MovementWord.TheVariants.{Mitchell, Howell, ShareAndRelay, Web}

-- its tables, rounds and sets
pub record Sizes (word : MovementWord) (tables rounds : ℕ) : Type 0 where
  pub from_tables : 3 ≤ tables
  pub to_tables : tables ≤ 16
  pub from_rounds : 1 ≤ rounds
  pub to_rounds : rounds ≤ 16
  pub from_sets : 1 ≤ sets_of_word word tables rounds
  pub to_sets : sets_of_word word tables rounds ≤ 16

pub sizes : (word : MovementWord) (tables rounds : ℕ) → can_have_tables word tables ≡ true →
    can_have_rounds word tables rounds ≡ true → Sizes word tables rounds
sizes Mitchell tables rounds has_tables has_rounds = record {
  from_tables = grind (arith, nat_tests);
  to_tables = grind (arith, nat_tests);
  from_rounds = grind (arith, nat_tests);
  to_rounds = grind (arith, nat_tests);
  from_sets = grind (arith, nat_tests);
  to_sets = grind (arith, nat_tests);
}
sizes Howell tables rounds has_tables has_rounds = record {
  from_tables = grind (arith, nat_tests);
  to_tables = grind (arith, nat_tests);
  from_rounds = grind (arith, nat_tests);
  to_rounds = grind (arith, nat_tests);
  from_sets = grind (arith, nat_tests);
  to_sets = grind (arith, nat_tests);
}
sizes ShareAndRelay tables rounds has_tables has_rounds = record {
  from_tables = grind (arith, nat_tests);
  to_tables = grind (arith, nat_tests);
  from_rounds = grind (arith, nat_tests);
  to_rounds = grind (arith, nat_tests);
  from_sets = grind (arith, nat_tests);
  to_sets = grind (arith, nat_tests);
}
sizes Web tables rounds has_tables has_rounds = record {
  from_tables = grind (arith, nat_tests);
  to_tables = grind (arith, nat_tests);
  from_rounds = grind (arith, nat_tests);
  to_rounds = grind (arith, nat_tests);
  from_sets = grind (arith, nat_tests);
  to_sets = grind (arith, nat_tests);
}

-- there are 256 rows at most
pub few_rows : (word : MovementWord) (tables rounds : ℕ) → Sizes word tables rounds → rounds * tables ≤ 256
few_rows word tables rounds size = mul-le-mul size.to_rounds size.to_tables

-- there is a row
pub a_row : (word : MovementWord) (tables rounds : ℕ) → Sizes word tables rounds → 0 < rounds * tables
a_row word tables rounds size =
    let least : 1 * 3 ≤ rounds * tables = mul-le-mul size.from_rounds size.from_tables in omega arith
