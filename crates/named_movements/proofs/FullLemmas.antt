-- Movements of which each row was gone through: they are sound, and have two pairs for each table.
use Rattle.std.proofs.Common.{
  ◌≡◌,
  ℕ,
  ◌+◌,
  ◌*◌,
  ◌/◌,
  ◌%◌,
  ◌<◌,
  ◌≤◌,
  Bool,
  true,
  false,
  List,
  [],
  length,
  map,
  take,
  get_or,
  refl,
  sym,
  ap,
  ◌∙◌,
  subst,
  All,
  arith,
}
use Rattle.std.specs.Prelude.{◌&&◌, nat_eq, if◌then◌else◌}
use Rattle.std.specs.List.{list_all, range_with_len}
use Rattle.std.proofs.Math.Nat.{div-lt_iff_lt-mul, mul-le-mul_right}
use Rattle.std.proofs.lemmas.Bool.{and_parts}
use Rattle.std.proofs.lemmas.List.FromFn.{
  length-range_with_len,
  get_or-range_with_len,
  length-map-range_with_len,
  get_or-map-range_with_len,
  take-map-range_with_len,
}
use Rattle.std.proofs.lemmas.List.Sums.{AllPass-from_list_all}
use Rattle.table_terms.specs.declared.side.Side.TheVariants.{NorthSouth, EastWest}
use Rattle.movement.specs.Listed.{pair_numbered}
use Rattle.movement.specs.Sound.{IsInRange, IsSound, seats, is_up_to}
use Rattle.movement.specs.declared.limits.Limits.{Limits}
use Rattle.movement.specs.declared.row.Row.{Row}
use Rattle.named_movements.specs.Words.{row_of_word, rows_of_word, sets_of_word, sharing_of_word}
use Rattle.named_movements.specs.declared.movement_word.MovementWord.{MovementWord}
use Rattle.named_movements.specs.declared.movement_word.MovementWord.TheVariants.{Mitchell, Howell, ShareAndRelay, Web}
use Rattle.named_movements.proofs.RowsLemmas.{word_row, word_rows_are}
use Rattle.named_movements.proofs.StandLemmas.{stand, sound_if, sound_part}

-- in which limits a movement's rows stay
abbrev pub limits : MovementWord → ℕ → ℕ → Limits
limits word tables rounds = record {
  rounds = rounds;
  tables = tables;
  sets = sets_of_word word tables rounds;
  shared_by = sharing_of_word word tables rounds;
}

-- whether a row's pairs are numbered up to the tables
abbrev pub has_numbers : ℕ → Row → Bool
has_numbers tables row = is_up_to row.north_south.number tables && is_up_to row.east_west.number tables

-- whether the pairs that are named by a table begin there
abbrev pub begins : MovementWord → ℕ → ℕ → ℕ → Bool
begins word tables rounds table =
    seats (word_row word tables rounds table) (pair_numbered NorthSouth (table + 1))
    && seats (word_row word tables rounds table) (pair_numbered EastWest (table + 1))

-- all of it, gone through row by row
abbrev pub is_full : MovementWord → ℕ → ℕ → Bool
is_full word tables rounds =
    stand (limits word tables rounds) [] (rows_of_word word tables rounds)
    && (list_all (has_numbers tables) (rows_of_word word tables rounds)
    && list_all (begins word tables rounds) (range_with_len 0 tables))

pub record IsFull (word : MovementWord) (tables rounds : ℕ) : Type 0 where
  pub sound : IsSound (limits word tables rounds) (rows_of_word word tables rounds)
  pub numbers : (k : ℕ) → k < rounds * tables → has_numbers tables (word_row word tables rounds k) ≡ true
  pub pairs : (table : ℕ) → table < tables → begins word tables rounds table ≡ true

three : (x y z : Bool) → (x && (y && z)) ≡ true → (x ≡ true) × (y ≡ true) × (z ≡ true)
three x y z all =
    let first = and_parts x (y && z) all in
    let rest = and_parts y z first.1 in
    (first.0, rest.0, rest.1)

pub full_if : (word : MovementWord) (tables rounds : ℕ) → is_full word tables rounds ≡ true → IsFull word tables rounds
full_if word tables rounds full =
    let parts = three (stand (limits word tables rounds) [] (rows_of_word word tables rounds))
    (list_all (has_numbers tables) (rows_of_word word tables rounds))
    (list_all (begins word tables rounds) (range_with_len 0 tables)) full in
    let row : ℕ → Row = word_row word tables rounds in
    record {
      sound = sound_if (limits word tables rounds) (rows_of_word word tables rounds) parts.0;
      numbers = λ k below.
          let rows = word_rows_are word tables rounds in
          let here : get_or (rows_of_word word tables rounds) k (row k) ≡ row k =
          ap (λ (all : List Row). get_or all k (row k)) rows
          ∙ get_or-map-range_with_len row 0 (rounds * tables) k k (row k) below (omega arith) in
          let long : length (rows_of_word word tables rounds) ≡ rounds * tables =
          ap (λ (all : List Row). length all) rows ∙ length-map-range_with_len row 0 (rounds * tables) in
          subst (λ (r : Row). has_numbers tables r ≡ true) here
          (AllPass-from_list_all (has_numbers tables) (rows_of_word word tables rounds) parts.1 k (row k) (omega arith));
      pairs = λ table below.
          let here : get_or (range_with_len 0 tables) table table ≡ table =
          get_or-range_with_len 0 tables table table below ∙ omega arith in
          let within : table < length (range_with_len 0 tables) = omega (arith, length-range_with_len 0 tables) in
          subst (λ (t : ℕ). begins word tables rounds t ≡ true) here
          (AllPass-from_list_all (begins word tables rounds) (range_with_len 0 tables) parts.2 table table within);
    }

-- a row is of its round
by_size : (small : Bool) (one other : Row) (round : ℕ) → one.round ≡ round → other.round ≡ round →
    (if small then one else other).round ≡ round
by_size true one other round is_one is_other = is_one
by_size false one other round is_one is_other = is_other

round_is : (word : MovementWord) (tables rounds round k : ℕ) →
    (row_of_word word tables rounds round k).round ≡ round + 1
round_is Mitchell tables rounds round k = refl
round_is Howell tables rounds round k = by_size (nat_eq tables 3) _ _ (round + 1) refl refl
round_is ShareAndRelay tables rounds round k = refl
round_is Web tables rounds round k = refl

-- the first rounds of a movement
module _ (word : MovementWord) (tables rounds most : ℕ) (has_tables : 0 < tables) (fewer : rounds ≤ most)
    (same : (k : ℕ) → word_row word tables rounds k ≡ word_row word tables most k)
    (sets : sets_of_word word tables rounds ≡ sets_of_word word tables most)
    (sharing : sharing_of_word word tables rounds ≡ sharing_of_word word tables most)
    (full : IsFull word tables most) where
  few : rounds * tables ≤ most * tables
  few = mul-le-mul_right tables fewer

  first_rows : take (rounds * tables) (rows_of_word word tables most) ≡ rows_of_word word tables rounds
  first_rows =
      ap (take (rounds * tables)) (word_rows_are word tables most)
      ∙ take-map-range_with_len (word_row word tables most) 0 (most * tables) (rounds * tables) few
      ∙ ap (λ (row : ℕ → Row). map row (range_with_len 0 (rounds * tables))) (λ i k. sym (same k) i)
      ∙ sym (word_rows_are word tables rounds)

  -- the row at a place of a list
  at : (n k : ℕ) (d : Row) → k < n * tables → get_or (rows_of_word word tables n) k d ≡ word_row word tables n k
  at n k d below =
      ap (λ (rows : List Row). get_or rows k d) (word_rows_are word tables n)
      ∙ get_or-map-range_with_len (word_row word tables n) 0 (n * tables) k k d below (omega arith)

  long : (n : ℕ) → length (rows_of_word word tables n) ≡ n * tables
  long n =
      ap (λ (rows : List Row). length rows) (word_rows_are word tables n)
      ∙ length-map-range_with_len (word_row word tables n) 0 (n * tables)

  in_limits : (k : ℕ) → k < rounds * tables → IsInRange (limits word tables rounds) (word_row word tables rounds k)
  in_limits k below =
      let among : k < most * tables = omega (arith, few) in
      let row : Row = word_row word tables rounds k in
      let within : k < length (rows_of_word word tables most) = omega (arith, long most) in
      let range : IsInRange (limits word tables most) row =
      subst (IsInRange (limits word tables most)) (at most k row among ∙ sym (same k))
      (full.sound.in_range k row within) in
      let round : row.round ≡ k / tables + 1 = round_is word tables rounds (k / tables) (k % tables) in
      let early : k / tables < rounds = (div-lt_iff_lt-mul has_tables).1 below in
      record {
        from_round = range.from_round;
        to_round = omega (arith, round, early);
        from_table = range.from_table;
        to_table = range.to_table;
        from_set = range.from_set;
        to_set = omega (arith, range.to_set, sets);
        from_north_south = range.from_north_south;
        to_north_south = range.to_north_south;
        from_east_west = range.from_east_west;
        to_east_west = range.to_east_west;
        two_pairs = range.two_pairs;
      }

  range : All (IsInRange (limits word tables rounds)) (take (rounds * tables) (rows_of_word word tables most))
  range = subst (All (IsInRange (limits word tables rounds))) (sym first_rows) (λ k d within.
      let below : k < rounds * tables = omega (arith, long rounds) in
      subst (IsInRange (limits word tables rounds)) (sym (at rounds k d below)) (in_limits k below))

  pub full_part : IsFull word tables rounds
  full_part = record {
    sound = subst (IsSound (limits word tables rounds)) first_rows
        (sound_part (rows_of_word word tables most) (rounds * tables) (limits word tables most)
        (limits word tables rounds) sharing full.sound range);
    numbers = λ k below. ap (has_numbers tables) (same k) ∙ full.numbers k (omega (arith, few));
    pairs = λ table below.
        ap (λ (row : Row). seats row (pair_numbered NorthSouth (table + 1))
        && seats row (pair_numbered EastWest (table + 1))) (same table)
        ∙ full.pairs table below;
  }
