-- Rows that can be played can be played with an arrow switch.
use Rattle.std.proofs.Common.{
  ◌≡◌,
  ◌≢◌,
  ℕ,
  ◌+◌,
  ◌<◌,
  Bool,
  true,
  false,
  cond,
  List,
  [],
  ◌∷◌,
  length,
  map,
  take,
  get_or,
  refl,
  sym,
  ap,
  ◌∙◌,
  subst,
  inl,
  inr,
  All,
  arith,
}
use Rattle.std.specs.Prelude.{◌⊎◌, ◌&&◌, nat_eq, nat_lt, count_by}
use Rattle.std.specs.List.{AllPairs, fold}
use Rattle.std.proofs.lemmas.List.{get_or-map, length-map, take-map}
use Rattle.std.proofs.lemmas.List.Elements.{All-map}
use Rattle.table_terms.specs.declared.pair.Pair.{Pair}
use Rattle.movement.specs.declared.limits.Limits.{Limits}
use Rattle.movement.specs.declared.row.Row.{Row}
use Rattle.movement.specs.Sound.{Seats, SharesPair, SharesBoth, shares_boards, IsInRange, IsSound}
use Rattle.movement.specs.Switched.{turned, switched_after, switched}

-- a row and what becomes of it: the same numbers, and the same two pairs
record IsSame (row other : Row) : Type 0 where
  round : other.round ≡ row.round
  table : other.table ≡ row.table
  set : other.set ≡ row.set
  pairs : ((other.north_south ≡ row.north_south) × (other.east_west ≡ row.east_west)) ⊎
      ((other.north_south ≡ row.east_west) × (other.east_west ≡ row.north_south))

one_of : (row : Row) (after : Bool) → IsSame row (cond after (turned row) row)
one_of row true = record { round = refl; table = refl; set = refl; pairs = inr (refl, refl) }
one_of row false = record { round = refl; table = refl; set = refl; pairs = inl (refl, refl) }

is_same : (rounds : ℕ) (row : Row) → IsSame row (switched_after rounds row)
is_same rounds row = one_of row (nat_lt rounds row.round)

-- whom the one seats, the other seats
seats_back : (row other : Row) → IsSame row other → (pair : Pair) → Seats other pair → Seats row pair
seats_back row other same pair seated = by same.pairs seated
  where
    by : ((other.north_south ≡ row.north_south) × (other.east_west ≡ row.east_west)) ⊎
        ((other.north_south ≡ row.east_west) × (other.east_west ≡ row.north_south)) → Seats other pair → Seats row pair
    by (inl both) (inl north) = inl (sym both.0 ∙ north)
    by (inl both) (inr east) = inr (sym both.1 ∙ east)
    by (inr both) (inl north) = inr (sym both.0 ∙ north)
    by (inr both) (inr east) = inl (sym both.1 ∙ east)

shares_back : (row other row' other' : Row) → IsSame row row' → IsSame other other' → SharesPair row' other' →
    SharesPair row other
shares_back row other row' other' same same' shared = by same'.pairs shared
  where
    back : (pair : Pair) → Seats row' pair → Seats row pair
    back = seats_back row row' same

    by : ((other'.north_south ≡ other.north_south) × (other'.east_west ≡ other.east_west)) ⊎
        ((other'.north_south ≡ other.east_west) × (other'.east_west ≡ other.north_south)) →
        SharesPair row' other' → SharesPair row other
    by (inl both) (inl north) = inl (subst (Seats row) both.0 (back other'.north_south north))
    by (inl both) (inr east) = inr (subst (Seats row) both.1 (back other'.east_west east))
    by (inr both) (inl north) = inr (subst (Seats row) both.0 (back other'.north_south north))
    by (inr both) (inr east) = inl (subst (Seats row) both.1 (back other'.east_west east))

both_back : (row other row' other' : Row) → IsSame row row' → IsSame other other' → SharesBoth row' other' →
    SharesBoth row other
both_back row other row' other' same same' shared = by same'.pairs
  where
    north : Seats row other'.north_south
    north = seats_back row row' same other'.north_south shared.0

    east : Seats row other'.east_west
    east = seats_back row row' same other'.east_west shared.1

    by : ((other'.north_south ≡ other.north_south) × (other'.east_west ≡ other.east_west)) ⊎
        ((other'.north_south ≡ other.east_west) × (other'.east_west ≡ other.north_south)) → SharesBoth row other
    by (inl both) = (subst (Seats row) both.0 north, subst (Seats row) both.1 east)
    by (inr both) = (subst (Seats row) both.1 east, subst (Seats row) both.0 north)

range_same : (limits : Limits) (row other : Row) → IsSame row other → IsInRange limits row → IsInRange limits other
range_same limits row other same range = by same.pairs
  where
    number : (pair : Pair) → ℕ
    number pair = pair.number

    by : ((other.north_south ≡ row.north_south) × (other.east_west ≡ row.east_west)) ⊎
        ((other.north_south ≡ row.east_west) × (other.east_west ≡ row.north_south)) → IsInRange limits other
    by (inl both) =
        let north : other.north_south.number ≡ row.north_south.number = ap (λ (pair : Pair). pair.number) both.0 in
        let east : other.east_west.number ≡ row.east_west.number = ap (λ (pair : Pair). pair.number) both.1 in
        record {
          from_round = omega (arith, same.round, range.from_round);
          to_round = omega (arith, same.round, range.to_round);
          from_table = omega (arith, same.table, range.from_table);
          to_table = omega (arith, same.table, range.to_table);
          from_set = omega (arith, same.set, range.from_set);
          to_set = omega (arith, same.set, range.to_set);
          from_north_south = omega (arith, range.from_north_south);
          to_north_south = omega (arith, range.to_north_south);
          from_east_west = omega (arith, range.from_east_west);
          to_east_west = omega (arith, range.to_east_west);
          two_pairs = λ one. range.two_pairs (sym both.0 ∙ one ∙ both.1);
        }
    by (inr both) =
        let north : other.north_south.number ≡ row.east_west.number = ap (λ (pair : Pair). pair.number) both.0 in
        let east : other.east_west.number ≡ row.north_south.number = ap (λ (pair : Pair). pair.number) both.1 in
        record {
          from_round = omega (arith, same.round, range.from_round);
          to_round = omega (arith, same.round, range.to_round);
          from_table = omega (arith, same.table, range.from_table);
          to_table = omega (arith, same.table, range.to_table);
          from_set = omega (arith, same.set, range.from_set);
          to_set = omega (arith, same.set, range.to_set);
          from_north_south = omega (arith, range.from_east_west);
          to_north_south = omega (arith, range.to_east_west);
          from_east_west = omega (arith, range.from_north_south);
          to_east_west = omega (arith, range.to_north_south);
          two_pairs = λ one. range.two_pairs (sym both.1 ∙ sym one ∙ both.0);
        }

-- as many are counted of what becomes of a list, where what becomes of each counts as it does
counted_from : (f : Row → Row) (p q : Row → Bool) (rows : List Row) → ((row : Row) → p (f row) ≡ q row) → (n : ℕ) →
    fold (λ a x. a + cond (p x) 1 0) n (map f rows) ≡ fold (λ a x. a + cond (q x) 1 0) n rows
counted_from f p q [] alike n = refl
counted_from f p q (row ∷ rows) alike n =
    counted_from f p q rows alike (n + cond (p (f row)) 1 0)
    ∙ ap (λ b. fold (λ a x. a + cond (q x) 1 0) (n + cond b 1 0) rows) (alike row)

counted_alike : (f : Row → Row) (p q : Row → Bool) (rows : List Row) → ((row : Row) → p (f row) ≡ q row) →
    count_by p (map f rows) ≡ count_by q rows
counted_alike f p q rows alike = counted_from f p q rows alike 0

module _ (limits : Limits) (rounds : ℕ) (rows : List Row) (sound : IsSound limits rows) where
  f : Row → Row
  f = switched_after rounds

  -- what no two rows have in common, no two of these have
  apart : (R : Row → Row → Type 0) →
      ((earlier row earlier' row' : Row) → IsSame earlier earlier' → IsSame row row' → R earlier row →
      R earlier' row') →
      AllPairs R rows → AllPairs R (switched rounds rows)
  unfolding switched f
  apart R keeps pairs i j d before within =
      let below : j < length rows = omega (arith, length-map rows f) in
      let one : get_or (map f rows) i d ≡ f (get_or rows i d) = get_or-map f rows i d d (omega arith) in
      let other : get_or (map f rows) j d ≡ f (get_or rows j d) = get_or-map f rows j d d below in
      rw (one, other) (keeps (get_or rows i d) (get_or rows j d) (f (get_or rows i d)) (f (get_or rows j d))
      (is_same rounds (get_or rows i d)) (is_same rounds (get_or rows j d)) (pairs i j d before below))

  pub switched_sound : IsSound limits (switched rounds rows)
  unfolding switched f
  switched_sound = record {
    in_range = every;
    tables = apart (λ earlier row. row.round ≡ earlier.round → row.table ≢ earlier.table)
        (λ earlier row earlier' row' a b holds round table. holds (sym b.round ∙ round ∙ a.round)
        (sym b.table ∙ table ∙ a.table)) sound.tables;
    cells = apart (λ earlier row. row.table ≡ earlier.table → row.set ≢ earlier.set)
        (λ earlier row earlier' row' a b holds table set. holds (sym b.table ∙ table ∙ a.table)
        (sym b.set ∙ set ∙ a.set)) sound.cells;
    rounds = apart (λ earlier row. row.round ≡ earlier.round → ¬ SharesPair row earlier)
        (λ earlier row earlier' row' a b holds round shared. holds (sym b.round ∙ round ∙ a.round)
        (shares_back row earlier row' earlier' b a shared)) sound.rounds;
    sets = apart (λ earlier row. row.set ≡ earlier.set → ¬ SharesPair row earlier)
        (λ earlier row earlier' row' a b holds set shared. holds (sym b.set ∙ set ∙ a.set)
        (shares_back row earlier row' earlier' b a shared)) sound.sets;
    opponents = apart (λ earlier row. ¬ SharesBoth row earlier)
        (λ earlier row earlier' row' a b holds shared. holds (both_back row earlier row' earlier' b a shared))
        sound.opponents;
    shared = few;
  }
    where
      every : All (IsInRange limits) (switched rounds rows)
      every = All-map (IsInRange limits) f rows
          (λ k d within. range_same limits (get_or rows k d) (f (get_or rows k d)) (is_same rounds (get_or rows k d))
          (sound.in_range k d within))

      few : (k : ℕ) (d : Row) → k < length (switched rounds rows) →
          count_by (shares_boards (get_or (switched rounds rows) k d)) (take k (switched rounds rows)) <
          limits.shared_by
      few k d within =
          let below : k < length rows = omega (arith, length-map rows f) in
          let row : Row = get_or rows k d in
          let here : get_or (map f rows) k d ≡ f row = get_or-map f rows k d d below in
          let same : IsSame row (f row) = is_same rounds row in
          let counted : count_by (shares_boards (f row)) (map f (take k rows)) ≡
          count_by (shares_boards row) (take k rows) =
          counted_alike f (shares_boards (f row)) (shares_boards row) (take k rows) (λ other.
          let also : IsSame other (f other) = is_same rounds other in
          λ i. nat_eq (same.round i) (also.round i) && nat_eq (same.set i) (also.set i)) in
          rw (here, take-map f k rows, counted) (sound.shared k d below)
