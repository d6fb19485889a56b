-- Which pairs a movement has that a word names: two for each table.
use Rattle.std.proofs.Common.{◌≡◌, ℕ, ◌+◌, ◌-◌, ◌*◌, ◌<◌, ◌≤◌, ◌⊎◌, inl, inr, Bool, true, false, List, length, get_or, refl, sym, ap, ◌∙◌, arith}
use Rattle.std.specs.Prelude.{◌||◌, nat_lt, if◌then◌else◌}
use Rattle.std.proofs.Math.Nat.{mul-le-mul_right}
use Rattle.std.proofs.lemmas.Bool.{and_parts, false_from_ne_true, leb-true}
use Rattle.std.proofs.lemmas.List.Folds.{list_any_none, list_any_at}
use Rattle.std.proofs.lemmas.List.FromFn.{length-map-range_with_len, get_or-map-range_with_len}
use Rattle.table_terms.specs.declared.pair.Pair.{Pair}
use Rattle.table_terms.specs.declared.side.Side.{Side}
use Rattle.table_terms.specs.declared.side.Side.TheVariants.{NorthSouth, EastWest}
use Rattle.mitchell.specs.Mitchell.{same_pair}
use Rattle.movement.specs.Listed.{is_seated, pair_numbered}
use Rattle.movement.specs.Sound.{Seats, seats}
use Rattle.movement.specs.Switched.{turned, switched_after}
use Rattle.movement.specs.declared.row.Row.{Row}
use Rattle.movement.proofs.ScheduleTests.{seats_decides}
use Rattle.named_movements.specs.Named.{named_rows}
use Rattle.named_movements.specs.declared.named_movement.NamedMovement.{NamedMovement}
use Rattle.named_movements.proofs.FullLemmas.{has_numbers, IsFull}
use Rattle.named_movements.proofs.RowsLemmas.{word_row, row_by_place, named_rows_are}

either : (x y : Bool) → (x || y) ≡ (y || x)
either true true = refl
either true false = refl
either false true = refl
either false false = refl

by_turn : (is_turned : Bool) (row : Row) (pair : Pair) → seats (if is_turned then turned row else row) pair ≡ seats row pair
by_turn true row pair = either (same_pair row.east_west pair) (same_pair row.north_south pair)
by_turn false row pair = refl

-- a row seats the same pairs the other way round
seats_same : (rounds : ℕ) (row : Row) (pair : Pair) → seats (switched_after rounds row) pair ≡ seats row pair
seats_same rounds row pair = by_turn (nat_lt rounds row.round) row pair

-- a row with numbers up to the tables seats no pair with another number
seats_no_other : (tables : ℕ) (row : Row) (pair : Pair) → has_numbers tables row ≡ true →
    (pair.number < 1) ⊎ (tables < pair.number) → seats row pair ≡ false
seats_no_other tables row pair numbers other =
    let north_south = and_parts _ _ (and_parts _ _ numbers).0 in
    let east_west = and_parts _ _ (and_parts _ _ numbers).1 in
    let from_north_south = leb-true 1 row.north_south.number north_south.0 in
    let to_north_south = leb-true row.north_south.number tables north_south.1 in
    let from_east_west = leb-true 1 row.east_west.number east_west.0 in
    let to_east_west = leb-true row.east_west.number tables east_west.1 in
    false_from_ne_true _ (λ has. refuted ((seats_decides row pair).0 has) from_north_south to_north_south
    from_east_west to_east_west)
  where
    refuted : Seats row pair → 1 ≤ row.north_south.number → row.north_south.number ≤ tables →
        1 ≤ row.east_west.number → row.east_west.number ≤ tables → ⊥
    refuted (inl is) a b c d =
        let number : row.north_south.number ≡ pair.number = ap (λ (p : Pair). p.number) is in absurd (omega arith)
    refuted (inr is) a b c d =
        let number : row.east_west.number ≡ pair.number = ap (λ (p : Pair). p.number) is in absurd (omega arith)

module _ (named : NamedMovement) (has_rounds : 1 ≤ named.rounds)
    (full : IsFull named.word named.tables named.rounds) where
  row : ℕ → Row
  row = word_row named.word named.tables named.rounds

  many : ℕ
  many = named.rounds * named.tables

  at : (k : ℕ) (d : Row) → k < many → get_or (named_rows named) k d ≡ row_by_place named k
  unfolding many
  at k d below =
      ap (λ (rows : List Row). get_or rows k d) (named_rows_are named)
      ∙ get_or-map-range_with_len (row_by_place named) 0 many k k d below (omega arith)

  long : length (named_rows named) ≡ many
  unfolding many
  long =
      ap (λ (rows : List Row). length rows) (named_rows_are named)
      ∙ length-map-range_with_len (row_by_place named) 0 many

  -- no other pair is seated
  pub no_other : (pair : Pair) → (pair.number < 1) ⊎ (named.tables < pair.number) →
      is_seated (named_rows named) pair ≡ false
  unfolding row many
  no_other pair other =
      list_any_none (λ row. seats row pair) (named_rows named) (λ k d within.
      let below : k < many = omega (arith, long) in
      ap (λ (r : Row). seats r pair) (at k d below)
      ∙ seats_same (named.rounds - named.switched) (row k) pair
      ∙ seats_no_other named.tables (row k) pair (full.numbers k below) other)

  begun : (side : Side) (table : ℕ) → table < named.tables → seats (row table) (pair_numbered side (table + 1)) ≡ true
  unfolding row
  begun NorthSouth table below = (and_parts _ _ (full.pairs table below)).0
  begun EastWest table below = (and_parts _ _ (full.pairs table below)).1

  -- each pair of a table is seated
  pub each_seated : (pair : Pair) → 1 ≤ pair.number → pair.number ≤ named.tables →
      is_seated (named_rows named) pair ≡ true
  unfolding row many
  each_seated pair from to =
      let table : ℕ = pair.number - 1 in
      let all : 1 * named.tables ≤ named.rounds * named.tables =
      mul-le-mul_right named.tables has_rounds in
      let below : table < many = omega arith in
      let within : table < length (named_rows named) = omega (arith, long) in
      let number : table + 1 ≡ pair.number = omega arith in
      list_any_at (λ row. seats row pair) (named_rows named) table (row table) within
      (ap (λ (r : Row). seats r pair) (at table (row table) below)
      ∙ seats_same (named.rounds - named.switched) (row table) pair
      ∙ ap (λ (n : ℕ). seats (row table) (pair_numbered pair.side n)) (sym number)
      ∙ begun pair.side table (omega arith))
