-- The Mitchell movement's rows can be played as a list: no two of them are one, and those that would clash are one.
use Rattle.std.proofs.Common.{
  ◌≡◌,
  ℕ,
  zero,
  suc,
  ◌+◌,
  ◌<◌,
  ◌≤◌,
  Bool,
  true,
  false,
  List,
  [],
  ◌∷◌,
  ◌++◌,
  length,
  map,
  take,
  get_or,
  refl,
  sym,
  ap,
  ◌∙◌,
  inl,
  inr,
  Contains,
  All,
  arith,
}
use Rattle.std.specs.Prelude.{◌⊎◌, count_by}
use Rattle.std.specs.List.{AllPairs, flat_map, range_with_len}
use Rattle.std.proofs.lemmas.Bool.{false_from_ne_true, and_parts, eqb-true}
use Rattle.std.proofs.lemmas.List.{get_or-map, length-map}
use Rattle.std.proofs.lemmas.List.Kept.{AllPairs-cons, AllPairs-filter}
use Rattle.std.proofs.lemmas.List.Elements.{All-append, All-map, Contains-get_or}
use Rattle.std.proofs.lemmas.List.FromFn.{
  length-range_with_len,
  get_or-range_with_len,
  length-map-range_with_len,
  get_or-map-range_with_len,
}
use Rattle.std.proofs.lemmas.List.Sums.{count_by_more_no}
use Rattle.std.proofs.Math.Numerals.{add-one}
use Rattle.table_terms.specs.declared.pair.Pair.{Pair}
use Rattle.table_terms.specs.declared.side.Side.TheVariants.{NorthSouth, EastWest}
use Rattle.mitchell.specs.Mitchell.{
  MitchellSection,
  MitchellRow,
  IsMitchell,
  row_of,
  full_rows,
  is_played,
  mitchell_rows,
  set_on,
  east_west_table,
}
use Rattle.mitchell.proofs.ContainsLemmas.{map_range-contains, flat_map-contains}
use Rattle.mitchell.proofs.OneRowLemmas.{same_at_table, same_set_at_table, same_seat, same_opponents}
use Rattle.mitchell.proofs.RoundLemmas.{wraps}
use Rattle.mitchell.proofs.RowLemmas.{made_of, in_range, rounds-le, same_made}
use Rattle.movement.specs.Mitchell.{row_of_mitchell, rows_of_mitchell, mitchell_limits}
use Rattle.movement.specs.Sound.{Seats, SharesPair, SharesBoth, shares_boards, IsInRange, IsSound}
use Rattle.movement.specs.declared.row.Row.{Row}

-- ---- the rows are in order

-- a row comes before another: in an earlier round, or in the same with a lower East-West pair
abbrev pub ComesBefore : MitchellRow → MitchellRow → Type 0
ComesBefore row other =
    (row.round < other.round) ⊎ ((row.round ≡ other.round) × (row.east_west.number < other.east_west.number))

-- no row comes before itself
not_itself : (row : MitchellRow) → ComesBefore row row → false ≡ true
not_itself row (inl earlier) = absurd (omega arith)
not_itself row (inr lower) = absurd (omega arith)

-- what holds of two lists, and of each of the one with each of the other, holds of them end to end
pairs-tail : {X : Type 0} (R : X → X → Type 0) (x : X) (xs : List X) → AllPairs R (x ∷ xs) → AllPairs R xs
pairs-tail R x xs pairs i j d before within = pairs (suc i) (suc j) d (omega arith) (omega arith)

pairs-head : {X : Type 0} (R : X → X → Type 0) (x : X) (xs : List X) → AllPairs R (x ∷ xs) → All (R x) xs
pairs-head R x xs pairs j d within = pairs zero (suc j) d (omega arith) (omega arith)

pub AllPairs-append : {X : Type 0} (R : X → X → Type 0) (xs ys : List X) → AllPairs R xs → AllPairs R ys →
    ((x y : X) → Contains xs x → Contains ys y → R x y) → AllPairs R (xs ++ ys)
AllPairs-append R [] ys pairs others cross = others
AllPairs-append R (x ∷ xs) ys pairs others cross =
    AllPairs-cons R x (xs ++ ys)
    (All-append (R x) xs ys (pairs-head R x xs pairs)
    (λ k d within. cross x (get_or ys k d) (0, omega arith, refl) (Contains-get_or ys k d within)))
    (AllPairs-append R xs ys (pairs-tail R x xs pairs) others
    (λ a b (k, within, here). cross a b (suc k, omega arith, here)))

range-from : (first n k : ℕ) → Contains (range_with_len first n) k → first ≤ k
range-from first n k (j, within, here) =
    let below : j < n = omega (arith, length-range_with_len first n) in
    let same : get_or (range_with_len first n) j k ≡ first + j = get_or-range_with_len first n j k below in
    omega arith

-- the rows of a round
abbrev round_rows : ℕ → ℕ → List MitchellRow
round_rows tables round = map (row_of tables round) (range_with_len 0 tables)

in_round : (tables round n : ℕ) → AllPairs ComesBefore (map (row_of tables round) (range_with_len 0 n))
in_round tables round n i j d before within =
    let below : j < n = omega (arith, length-map-range_with_len (row_of tables round) 0 n) in
    let one = get_or-map-range_with_len (row_of tables round) 0 n i i d (omega arith) (omega arith) in
    let other = get_or-map-range_with_len (row_of tables round) 0 n j j d below (omega arith) in
    rw (one, other) (inr (refl, omega arith))

in_rounds : (tables first n : ℕ) → AllPairs ComesBefore (flat_map (round_rows tables) (range_with_len first n))
in_rounds tables first zero = λ i j d before within. absurd (omega arith)
in_rounds tables first (suc n) =
    AllPairs-append ComesBefore (round_rows tables first) (flat_map (round_rows tables) (range_with_len (first + 1) n))
    (in_round tables first tables) (in_rounds tables (first + 1) n) earlier
  where
    earlier : (x y : MitchellRow) → Contains (round_rows tables first) x →
        Contains (flat_map (round_rows tables) (range_with_len (first + 1) n)) y → ComesBefore x y
    earlier x y in_x in_y =
        let one = map_range-contains (row_of tables first) tables x in_x in
        let later = flat_map-contains (round_rows tables) (range_with_len (first + 1) n) y in_y in
        let other = map_range-contains (row_of tables later.0) tables y later.2 in
        let from = range-from (first + 1) n later.0 later.1 in
        let x_round : first + 1 ≡ x.round = ap (λ (row : MitchellRow). row.round) one.2 in
        let y_round : later.0 + 1 ≡ y.round = ap (λ (row : MitchellRow). row.round) other.2 in
        inl (omega arith)

pub in_order : (section : MitchellSection) → AllPairs ComesBefore (mitchell_rows section)
unfolding mitchell_rows full_rows
in_order section =
    AllPairs-filter ComesBefore (is_played section) _ (in_rounds section.tables 0 section.rounds)

-- ---- rows that would clash are one

-- the row of the movement
abbrev unlisted : Row → MitchellRow
unlisted row = record {
  round = row.round;
  table = row.table;
  set = row.set;
  north_south = row.north_south;
  east_west = row.east_west;
}

-- no later row has something in common with an earlier one, where two that have it are one
apart_from : (section : MitchellSection) (R : Row → Row → Type 0) →
    ((first second : MitchellRow) → Contains (mitchell_rows section) first → Contains (mitchell_rows section) second →
    R (row_of_mitchell second) (row_of_mitchell first) → first ≡ second) → AllPairs (λ earlier row. ¬ R row earlier)
    (rows_of_mitchell section)
unfolding rows_of_mitchell
apart_from section R one i j d before within clash =
    let played : List MitchellRow = mitchell_rows section in
    let e : MitchellRow = unlisted d in
    let below : j < length played = omega (arith, length-map played row_of_mitchell) in
    let first : MitchellRow = get_or played i e in
    let second : MitchellRow = get_or played j e in
    let is_first : get_or (map row_of_mitchell played) i d ≡ row_of_mitchell first =
    get_or-map row_of_mitchell played i e d (omega arith) in
    let is_second : get_or (map row_of_mitchell played) j d ≡ row_of_mitchell second =
    get_or-map row_of_mitchell played j e d below in
    let same : first ≡ second =
    one first second (Contains-get_or played i e (omega arith)) (Contains-get_or played j e below)
    (rw (← is_first, ← is_second) clash) in
    let order : ComesBefore first second = in_order section i j e before below in
    absurd (false_is_not_true (not_itself second (rw same at order)))
  where
    false_is_not_true : false ≡ true → ⊥
    false_is_not_true same = cc

module _ (section : MitchellSection) (is_section : IsMitchell section) where
  -- the two rows seat one pair on one side
  sides_apart : (first second : MitchellRow) → Contains (mitchell_rows section) first →
      Contains (mitchell_rows section) second →
      first.north_south ≡ second.east_west → false ≡ true
  sides_apart first second in_first in_second same =
      let a = made_of section first in_first in
      let b = made_of section second in_second in
      let side : NorthSouth ≡ EastWest =
      sym a.is_north_south ∙ ap (λ (pair : Pair). pair.side) same ∙ b.is_east_west in
      absurd (cc)

  -- in a round a pair has one row
  same_in_round : (first second : MitchellRow) (pair : Pair) → Contains (mitchell_rows section) first →
      Contains (mitchell_rows section) second →
      Seats (row_of_mitchell first) pair → Seats (row_of_mitchell second) pair → first.round ≡ second.round →
      first ≡ second
  same_in_round first second pair in_first in_second (inl north) (inl north') round =
      let a = made_of section first in_first in
      let b = made_of section second in_second in
      let number = ap (λ (pair : Pair). pair.number) (north ∙ sym north') in
      same_at_table section first second is_section in_first in_second (omega arith) round
  same_in_round first second pair in_first in_second (inr east) (inr east') round =
      let a = made_of section first in_first in
      let b = made_of section second in_second in
      let number = ap (λ (pair : Pair). pair.number) (east ∙ sym east') in
      same_made section first second a b (omega arith) (omega arith)
  same_in_round first second pair in_first in_second (inl north) (inr east) round =
      let never = sides_apart first second in_first in_second (north ∙ sym east) in absurd (cc)
  same_in_round first second pair in_first in_second (inr east) (inl north) round =
      let never = sides_apart second first in_second in_first (north ∙ sym east) in absurd (cc)

  -- two rows that share both pairs are one
  same_both : (first second : MitchellRow) → Contains (mitchell_rows section) first →
      Contains (mitchell_rows section) second →
      SharesBoth (row_of_mitchell second) (row_of_mitchell first) → first ≡ second
  same_both first second in_first in_second (inl north, inr east) =
      same_opponents section first second is_section in_first in_second (sym east) (sym north)
  same_both first second in_first in_second (inr east, other) =
      let never = sides_apart first second in_first in_second (sym east) in absurd (cc)
  same_both first second in_first in_second (inl north, inl north') =
      let never = sides_apart second first in_second in_first north' in absurd (cc)

  -- in a round a set is at one table
  same_set_in_round : (first second : MitchellRow) → Contains (mitchell_rows section) first →
      Contains (mitchell_rows section) second →
      first.round ≡ second.round → first.set ≡ second.set → first ≡ second
  same_set_in_round first second in_first in_second round set =
      let n : ℕ = section.tables in
      let a = made_of section first in_first in
      let b = made_of section second in_second in
      let few = rounds-le section is_section in
      let here : ℕ = east_west_table n a.pair a.round in
      let there : ℕ = east_west_table n b.pair b.round in
      let a_below : a.round < n = omega (arith, a.round_below) in
      let b_below : b.round < n = omega (arith, b.round_below) in
      let here_below : here < n = omega (arith, a.pair_below) in
      let there_below : there < n = omega (arith, b.pair_below) in
      let held : set_on n here a.round ≡ set_on n there b.round = omega arith in
      let rounds : a.round ≡ b.round = omega arith in
      let one = wraps n (here + a.round) (omega arith) in
      let other = wraps n (there + b.round) (omega arith) in
      let tables : here ≡ there = omega arith in
      same_at_table section first second is_section in_first in_second (omega arith) round

  pub mitchell_in_range : (row : MitchellRow) → Contains (mitchell_rows section) row →
      IsInRange (mitchell_limits section) (row_of_mitchell row)
  mitchell_in_range row among =
      let range = in_range section row among in
      let few = is_section.not_too_many_tables in
      let number : row.north_south.number ≡ row.table = ap (λ (pair : Pair). pair.number) range.north_south in
      record {
        from_round = range.from_round;
        to_round = range.to_round;
        from_table = range.from_table;
        to_table = range.to_table;
        from_set = range.from_set;
        to_set = range.to_set;
        from_north_south = omega (arith, range.from_table);
        to_north_south = omega (arith, range.to_table);
        from_east_west = range.from_pair;
        to_east_west = omega (arith, range.to_pair);
        two_pairs = λ same. false_is_not_true (sides_apart row row among among same);
      }
    where
      false_is_not_true : false ≡ true → ⊥
      false_is_not_true same = cc

-- where no element of the first so many passes, none is counted
none_counted : {X : Type 0} (p : X → Bool) (xs : List X) (n : ℕ) (d : X) → n ≤ length xs →
    ((i : ℕ) → i < n → p (get_or xs i d) ≡ false) → count_by p (take n xs) ≡ 0
none_counted p xs zero d few none = refl
none_counted p xs (suc n) d few none =
    ap (λ m. count_by p (take m xs)) (sym (add-one n))
    ∙ count_by_more_no p xs n d (omega arith) (none n (omega arith))
    ∙ none_counted p xs n d (omega arith) (λ i below. none i (omega arith))

module _ (section : MitchellSection) (is_section : IsMitchell section) where
  -- two rows of one round share no set
  sets_apart : AllPairs (λ earlier row. ¬ ((row.round ≡ earlier.round) × (row.set ≡ earlier.set)))
      (rows_of_mitchell section)
  sets_apart = apart_from section (λ row earlier. (row.round ≡ earlier.round) × (row.set ≡ earlier.set))
      (λ first second in_first in_second both. same_set_in_round section is_section first second in_first in_second
      (sym both.0) (sym both.1))

  -- the pair that two rows share
  by_share : (first second : MitchellRow) → SharesPair (row_of_mitchell second) (row_of_mitchell first) →
      (pair : Pair) ×
      (Seats (row_of_mitchell first) pair × Seats (row_of_mitchell second) pair)
  by_share first second (inl north) = (first.north_south, (inl refl, north))
  by_share first second (inr east) = (first.east_west, (inr refl, east))

  pub mitchell_sound : IsSound (mitchell_limits section) (rows_of_mitchell section)
  unfolding rows_of_mitchell
  mitchell_sound = record {
    in_range = every;
    tables = λ i j d before within round table. apart_from section
        (λ row earlier. (row.round ≡ earlier.round) × (row.table ≡ earlier.table))
        (λ first second in_first in_second both. same_at_table section first second is_section in_first in_second
        (sym both.1) (sym both.0)) i j d before within (round, table);
    cells = λ i j d before within table set. apart_from section
        (λ row earlier. (row.table ≡ earlier.table) × (row.set ≡ earlier.set))
        (λ first second in_first in_second both. same_set_at_table section first second is_section in_first in_second
        (sym both.0) (sym both.1)) i j d before within (table, set);
    rounds = λ i j d before within round shared. apart_from section
        (λ row earlier. (row.round ≡ earlier.round) × SharesPair row earlier)
        (λ first second in_first in_second both.
        let share = by_share first second both.1 in
        same_in_round section is_section first second share.0 in_first in_second share.1.0 share.1.1 (sym both.0))
        i j d before within (round, shared);
    sets = λ i j d before within set shared. apart_from section
        (λ row earlier. (row.set ≡ earlier.set) × SharesPair row earlier)
        (λ first second in_first in_second both.
        let share = by_share first second both.1 in
        same_seat section first second share.0 is_section in_first in_second share.1.0 share.1.1 (sym both.0))
        i j d before within (set, shared);
    opponents = apart_from section SharesBoth
        (λ first second in_first in_second both. same_both section is_section first second in_first in_second both);
    shared = once;
  }
    where
      every : All (IsInRange (mitchell_limits section)) (rows_of_mitchell section)
      every = All-map (IsInRange (mitchell_limits section)) row_of_mitchell (mitchell_rows section)
          (λ k d within. mitchell_in_range section is_section (get_or (mitchell_rows section) k d)
          (Contains-get_or (mitchell_rows section) k d within))

      once : (k : ℕ) (d : Row) → k < length (rows_of_mitchell section) →
          count_by (shares_boards (get_or (rows_of_mitchell section) k d)) (take k (rows_of_mitchell section)) < 1
      once k d within =
          let all : List Row = rows_of_mitchell section in
          let none : count_by (shares_boards (get_or all k d)) (take k all) ≡ 0 =
          none_counted (shares_boards (get_or all k d)) all k d (omega arith)
          (λ i below. false_from_ne_true _ (λ test.
          let parts = and_parts _ _ test in
          sets_apart i k d below within (eqb-true _ _ parts.0, eqb-true _ _ parts.1))) in
          omega arith
