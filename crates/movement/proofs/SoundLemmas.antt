-- A list of rows can be played exactly where no row of it has a fault after those before it.
use Rattle.std.proofs.Common.{◌≡◌, ℕ, ◌<◌, ◌≤◌, true, false, List, length, take, get_or, sym, ap, ◌∙◌, inl, inr, arith}
use Rattle.std.specs.Bool.{Decides}
use Rattle.std.specs.List.{AllPairs, list_any}
use Rattle.std.proofs.lemmas.Bool.{
  false≢true,
  false_from_ne_true,
  not-true,
  not-false,
  and_from,
  and_parts,
  or_cases,
  or_right,
  or_parts,
  leb-true,
  leb-false,
  le-leb,
}
use Rattle.std.proofs.lemmas.Bool.Decides.{Decides-eqb, Decides-and, Decides-or, Decides-not}
use Rattle.std.proofs.lemmas.List.{get_or-take, length-take-le, get_or_default}
use Rattle.std.proofs.lemmas.List.Folds.{Any-from_list_any, list_any_at}
use Rattle.movement.proofs.ScheduleTests.{pair_decides, seats_decides}
use Rattle.movement.specs.declared.limits.Limits.{Limits}
use Rattle.movement.specs.declared.row.Row.{Row}
use Rattle.movement.specs.declared.movement_fault.MovementFault.{MovementFault}
use Rattle.movement.specs.declared.movement_fault.MovementFault.TheVariants.{
  OutOfRange,
  TableTwice,
  SetAtTableAgain,
  PairTwice,
  SetAgain,
  OpponentsAgain,
  SharedByTooMany,
}
use Rattle.movement.specs.Sound.{SharesPair, SharesBoth, shares_pair, shares_both, is_up_to, is_in_range, clashes, is_ill_placed, has_fault, IsInRange, IsSound, HasNoFault}

-- ---- the tests

shares_decides : (row other : Row) → Decides (shares_pair row other) (SharesPair row other)
shares_decides row other = Decides-or _ _ (seats_decides row other.north_south) (seats_decides row other.east_west)

both_decides : (row other : Row) → Decides (shares_both row other) (SharesBoth row other)
both_decides row other = Decides-and _ _ (seats_decides row other.north_south) (seats_decides row other.east_west)

-- what a row and an earlier one have in common, for each fault
abbrev pub Clash : MovementFault → Row → Row → Type 0
Clash OutOfRange row other = false ≡ true
Clash TableTwice row other = (row.round ≡ other.round) × (row.table ≡ other.table)
Clash SetAtTableAgain row other = (row.table ≡ other.table) × (row.set ≡ other.set)
Clash PairTwice row other = (row.round ≡ other.round) × SharesPair row other
Clash SetAgain row other = (row.set ≡ other.set) × SharesPair row other
Clash OpponentsAgain row other = SharesBoth row other
Clash SharedByTooMany row other = false ≡ true

clash_decides : (fault : MovementFault) (row other : Row) → Decides (clashes fault row other) (Clash fault row other)
clash_decides OutOfRange row other = (λ test. test, λ clash. clash)
clash_decides TableTwice row other = Decides-and _ _ (Decides-eqb _ _) (Decides-eqb _ _)
clash_decides SetAtTableAgain row other = Decides-and _ _ (Decides-eqb _ _) (Decides-eqb _ _)
clash_decides PairTwice row other = Decides-and _ _ (Decides-eqb _ _) (shares_decides row other)
clash_decides SetAgain row other = Decides-and _ _ (Decides-eqb _ _) (shares_decides row other)
clash_decides OpponentsAgain row other = both_decides row other
clash_decides SharedByTooMany row other = (λ test. test, λ clash. clash)

up_to : (number most : ℕ) → is_up_to number most ≡ true → (1 ≤ number) × (number ≤ most)
up_to number most test =
    let parts = and_parts _ _ test in
    (leb-true _ _ parts.0, leb-true _ _ parts.1)

is_up : (number most : ℕ) → 1 ≤ number → number ≤ most → is_up_to number most ≡ true
is_up number most from to = and_from _ _ (le-leb _ _ from) (le-leb _ _ to)

pub range_decides : (limits : Limits) (row : Row) → Decides (is_in_range limits row) (IsInRange limits row)
range_decides limits row = (from, to)
  where
    from : is_in_range limits row ≡ true → IsInRange limits row
    from test =
        let a = and_parts _ _ test in
        let b = and_parts _ _ a.1 in
        let c = and_parts _ _ b.1 in
        let d = and_parts _ _ c.1 in
        let e = and_parts _ _ d.1 in
        let round = up_to _ _ a.0 in
        let table = up_to _ _ b.0 in
        let set = up_to _ _ c.0 in
        let north_south = up_to _ _ d.0 in
        let east_west = up_to _ _ e.0 in
        record {
          from_round = round.0;
          to_round = round.1;
          from_table = table.0;
          to_table = table.1;
          from_set = set.0;
          to_set = set.1;
          from_north_south = north_south.0;
          to_north_south = north_south.1;
          from_east_west = east_west.0;
          to_east_west = east_west.1;
          two_pairs = (Decides-not _ (pair_decides row.north_south row.east_west)).0 e.1;
        }

    to : IsInRange limits row → is_in_range limits row ≡ true
    to range =
        and_from _ _ (is_up _ _ range.from_round range.to_round)
        (and_from _ _ (is_up _ _ range.from_table range.to_table)
        (and_from _ _ (is_up _ _ range.from_set range.to_set)
        (and_from _ _ (is_up _ _ range.from_north_south range.to_north_south)
        (and_from _ _ (is_up _ _ range.from_east_west range.to_east_west)
        ((Decides-not _ (pair_decides row.north_south row.east_west)).1 range.two_pairs)))))

-- ---- from no fault to a list that can be played

module _ (limits : Limits) (rows : List Row) (faultless : (k : ℕ) → k < length rows → HasNoFault limits rows k) where
  no_clash : (fault : MovementFault) → AllPairs (λ earlier row. ¬ Clash fault row earlier) rows
  unfolding has_fault
  no_clash fault i j d before within clash =
      let row : Row = get_or rows j d in
      let there : get_or (take j rows) i d ≡ get_or rows i d = get_or-take j rows i d before in
      let many : length (take j rows) ≡ j = length-take-le j rows (omega arith) in
      let test : clashes fault row (get_or (take j rows) i d) ≡ true =
      ap (clashes fault row) there ∙ (clash_decides fault row (get_or rows i d)).1 clash in
      let found : list_any (clashes fault row) (take j rows) ≡ true =
      list_any_at (clashes fault row) (take j rows) i d (omega arith) test in
      false≢true (sym (faultless j within d fault)
      ∙ or_right (is_ill_placed limits (take j rows) row fault) _ found)

  ill_placed_not : (fault : MovementFault) (k : ℕ) (d : Row) → k < length rows →
      is_ill_placed limits (take k rows) (get_or rows k d) fault ≡ false
  unfolding has_fault
  ill_placed_not fault k d within = (or_parts _ _ (faultless k within d fault)).0

  pub sound_from : IsSound limits rows
  sound_from = record {
    in_range = λ k d within. (range_decides limits _).0 (not-false _ (ill_placed_not OutOfRange k d within));
    tables = λ i j d before within round table. no_clash TableTwice i j d before within (round, table);
    cells = λ i j d before within table set. no_clash SetAtTableAgain i j d before within (table, set);
    rounds = λ i j d before within round shared. no_clash PairTwice i j d before within (round, shared);
    sets = λ i j d before within set shared. no_clash SetAgain i j d before within (set, shared);
    opponents = λ i j d before within shared. no_clash OpponentsAgain i j d before within shared;
    shared = λ k d within. leb-false _ _ (ill_placed_not SharedByTooMany k d within);
  }

-- ---- and back

module _ (limits : Limits) (rows : List Row) (sound : IsSound limits rows) where
  -- a fault that lies in an earlier row
  not_with_one : (fault : MovementFault) → AllPairs (λ earlier row. ¬ Clash fault row earlier) rows →
      (k : ℕ) (d : Row) →
      k < length rows → list_any (clashes fault (get_or rows k d)) (take k rows) ≡ true → false ≡ true
  not_with_one fault apart k d within test =
      let row : Row = get_or rows k d in
      let found = Any-from_list_any (clashes fault row) (take k rows) test in
      let i : ℕ = found.0 in
      let earlier : Row = found.1 in
      let many : length (take k rows) ≡ k = length-take-le k rows (omega arith) in
      let before : i < k = omega (arith, found.2) in
      let there : get_or rows i earlier ≡ earlier = sym (get_or-take k rows i earlier before) ∙ found.3 in
      let default : get_or rows k earlier ≡ row = get_or_default rows k earlier d within in
      let clash : Clash fault row earlier = (clash_decides fault row earlier).0 found.4 in
      absurd (apart i k earlier before within (rw (there, default) clash))

  well_placed : (fault : MovementFault) (k : ℕ) (d : Row) → k < length rows →
      is_ill_placed limits (take k rows) (get_or rows k d) fault ≡ true → false ≡ true
  well_placed OutOfRange k d within test =
      sym (not-true _ test) ∙ (range_decides limits _).1 (sound.in_range k d within)
  well_placed TableTwice k d within test = test
  well_placed SetAtTableAgain k d within test = test
  well_placed PairTwice k d within test = test
  well_placed SetAgain k d within test = test
  well_placed OpponentsAgain k d within test = test
  well_placed SharedByTooMany k d within test =
      let fewer = sound.shared k d within in
      let many = leb-true _ _ test in
      absurd (omega arith)

  apart : (fault : MovementFault) → AllPairs (λ earlier row. ¬ Clash fault row earlier) rows
  apart OutOfRange i j d before within clash = false≢true clash
  apart TableTwice i j d before within clash = sound.tables i j d before within clash.0 clash.1
  apart SetAtTableAgain i j d before within clash = sound.cells i j d before within clash.0 clash.1
  apart PairTwice i j d before within clash = sound.rounds i j d before within clash.0 clash.1
  apart SetAgain i j d before within clash = sound.sets i j d before within clash.0 clash.1
  apart OpponentsAgain i j d before within clash = sound.opponents i j d before within clash
  apart SharedByTooMany i j d before within clash = false≢true clash

  pub faultless_from : (k : ℕ) → k < length rows → HasNoFault limits rows k
  unfolding has_fault
  faultless_from k within d fault =
      false_from_ne_true _ (λ test. elim (or_cases _ _ test) [
        | inl ill ↦ false≢true (well_placed fault k d within ill)
        | inr one ↦ false≢true (not_with_one fault (apart fault) k d within one)
      ])
