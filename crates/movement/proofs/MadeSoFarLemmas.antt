-- The Mitchell movement as far as it is put at its places.
use Rattle.std.proofs.Common.{
  ◌≡◌,
  ℕ,
  ◌+◌,
  ◌<◌,
  ◌≤◌,
  List,
  length,
  map,
  get_or,
  sym,
  ap,
  ◌∙◌,
  subst,
  inl,
  inr,
  Any,
  Contains,
  replicate,
  arith,
}
use Rattle.std.specs.Prelude.{Option, Some, None, ◌↔◌, ◌⊎◌, slice_set}
use Rattle.std.proofs.lemmas.Bool.{cases_eq}
use Rattle.std.proofs.lemmas.List.{length-map, get_or-map, get_or_default, length-set, length-replicate}
use Rattle.std.proofs.lemmas.List.Elements.{All-contains}
use Rattle.mitchell.specs.Mitchell.{MitchellSection, IsMitchell, mitchell_rows, MitchellRow}
use Rattle.mitchell.specs.MitchellRow.{IsAtTable}
use Rattle.movement.specs.declared.row.Row.{Row}
use Rattle.movement.specs.declared.sitting.Sitting.{Sitting}
use Rattle.movement.specs.Kept.{places, place_of, sitting_of, kept_rows}
use Rattle.movement.specs.Mitchell.{row_of_mitchell, rows_of_mitchell, mitchell_limits}
use Rattle.movement.specs.Sound.{IsInRange, IsSound}
use Rattle.movement.proofs.ApartLemmas.{same_at_table}
use Rattle.movement.proofs.FillLemmas.{fill_none}
use Rattle.movement.proofs.MadeLemmas.{put_one}
use Rattle.movement.proofs.MitchellLemmas.{mitchell_sound}

-- what is kept are the rows that come before
pub record IsSoFar (section : MitchellSection) (sittings : List (Option Sitting)) (before : Row → Type 0) : Type 0 where
  pub long : length sittings ≡ places
  pub held : (row : Row) → Contains (kept_rows sittings) row ↔ (Contains (rows_of_mitchell section) row × before row)

-- the tables so far, and of the next one the rounds so far
abbrev pub IsBefore : ℕ → ℕ → Row → Type 0
IsBefore table round row = (row.table ≤ table) ⊎ ((row.table ≡ table + 1) × (row.round ≤ round))

abbrev pub IsAtTables : ℕ → Row → Type 0
IsAtTables table row = row.table ≤ table

range : (section : MitchellSection) → IsMitchell section → (row : Row) → Contains (rows_of_mitchell section) row →
    IsInRange (mitchell_limits section) row
range section is_section row among =
    All-contains (IsInRange (mitchell_limits section)) (rows_of_mitchell section) row
    (mitchell_sound section is_section).in_range among

-- the same rows, said in other words
so_far_as : (section : MitchellSection) (sittings : List (Option Sitting)) (before after : Row → Type 0) →
    ((row : Row) → Contains (rows_of_mitchell section) row → before row ↔ after row) → IsSoFar section sittings before →
    IsSoFar section sittings after
so_far_as section sittings before after same so_far = record {
  long = so_far.long;
  held = λ row. (
    λ kept. let both = (so_far.held row).0 kept in (both.0, (same row both.0).0 both.1),
    λ both. (so_far.held row).1 (both.0, (same row both.0).1 both.1),
  );
}

pub nothing_yet : (section : MitchellSection) → IsMitchell section →
    IsSoFar section (replicate places None) (IsAtTables 0)
nothing_yet section is_section = record {
  long = length-replicate {A = Option Sitting} places None;
  held = λ row. (
    λ kept. let (k, within, here) = (fill_none row).0 kept in absurd (omega arith),
    λ both. let there = range section is_section row both.0 in absurd (omega (arith, there.from_table, both.1)),
  );
}

pub begins : (section : MitchellSection) → IsMitchell section → (sittings : List (Option Sitting)) (table : ℕ) →
    IsSoFar section sittings (IsAtTables table) → IsSoFar section sittings (IsBefore table 0)
begins section is_section sittings table so_far =
    so_far_as section sittings (IsAtTables table) (IsBefore table 0) (λ row among. (
      λ before. inl before,
      λ before. by row among before,
    )) so_far
  where
    by : (row : Row) → Contains (rows_of_mitchell section) row → IsBefore table 0 row → row.table ≤ table
    by row among (inl before) = before
    by row among (inr now) =
        let there = range section is_section row among in absurd (omega (arith, there.from_round, now.1))

pub ends : (section : MitchellSection) → IsMitchell section → (sittings : List (Option Sitting)) (table round : ℕ) →
    section.rounds ≤ round → IsSoFar section sittings (IsBefore table round) →
    IsSoFar section sittings (IsAtTables (table + 1))
ends section is_section sittings table round all so_far =
    so_far_as section sittings (IsBefore table round) (IsAtTables (table + 1)) (λ row among. (
      λ before. by row before,
      λ before. back row among before,
    )) so_far
  where
    by : (row : Row) → IsBefore table round row → row.table ≤ table + 1
    by row (inl before) = omega arith
    by row (inr now) = omega (arith, now.0)

    back : (row : Row) → Contains (rows_of_mitchell section) row → row.table ≤ table + 1 → IsBefore table round row
    back row among before =
        let there = range section is_section row among in
        elim (cases_eq row.table (table + 1)) [
          | inl same ↦ inr (same, omega (arith, there.to_round))
          | inr other ↦ inl (omega arith)
        ]

pub one_more : (section : MitchellSection) → IsMitchell section →
    (sittings put : List (Option Sitting)) (table round : ℕ)
    (row : Row) → Contains (rows_of_mitchell section) row → row.table ≡ table + 1 → row.round ≡ round + 1 →
    put ≡ slice_set sittings (place_of row.set row.table) (Some (sitting_of row)) →
    IsSoFar section sittings (IsBefore table round) → IsSoFar section put (IsBefore table (round + 1))
one_more section is_section sittings put table round row among at_table at_round is_put so_far =
    record {
      long = long;
      held = λ other. subst
          (λ (put : List (Option Sitting)). Contains (kept_rows put) other ↔
          (Contains (rows_of_mitchell section) other × IsBefore table (round + 1) other)) (sym is_put)
          (put_one (mitchell_limits section) (rows_of_mitchell section) sound (IsBefore table round)
          (IsBefore table (round + 1)) sittings row among there.from_set
          (omega (arith, there.to_set, is_section.not_too_many_tables)) there.from_table
          (omega (arith, there.to_table, is_section.not_too_many_tables)) so_far.long so_far.held more other);
    }
  where
    sound : IsSound (mitchell_limits section) (rows_of_mitchell section)
    sound = mitchell_sound section is_section

    there : IsInRange (mitchell_limits section) row
    there = range section is_section row among

    long : length put ≡ places
    long = ap length is_put ∙ length-set sittings _ _ ∙ so_far.long

    more : (other : Row) → Contains (rows_of_mitchell section) other →
        IsBefore table (round + 1) other ↔ (IsBefore table round other ⊎ (row ≡ other))
    more other in_other = (from, to)
      where
        from : IsBefore table (round + 1) other → IsBefore table round other ⊎ (row ≡ other)
        from (inl before) = inl (inl before)
        from (inr now) =
            elim (cases_eq other.round (round + 1)) [
              | inl same ↦
                  inr (same_at_table (mitchell_limits section) (rows_of_mitchell section) row other sound among in_other
                  (at_table ∙ sym now.0) (at_round ∙ sym same))
              | inr earlier ↦ inl (inr (now.0, omega (arith, now.1)))
            ]

        to : IsBefore table round other ⊎ (row ≡ other) → IsBefore table (round + 1) other
        to (inl (inl before)) = inl before
        to (inl (inr now)) = inr (now.0, omega (arith, now.1))
        to (inr one) = subst (IsBefore table (round + 1)) one (inr (at_table, omega arith))

pub none_more : (section : MitchellSection) → IsMitchell section →
    (sittings : List (Option Sitting)) (table round : ℕ) →
    ¬ Any (λ row. IsAtTable row (table + 1) (round + 1)) (mitchell_rows section) →
    IsSoFar section sittings (IsBefore table round) → IsSoFar section sittings (IsBefore table (round + 1))
unfolding rows_of_mitchell
none_more section is_section sittings table round none so_far =
    so_far_as section sittings (IsBefore table round) (IsBefore table (round + 1)) (λ row among. (
      λ before. by row before,
      λ before. back row among before,
    )) so_far
  where
    by : (row : Row) → IsBefore table round row → IsBefore table (round + 1) row
    by row (inl before) = inl before
    by row (inr now) = inr (now.0, omega (arith, now.1))

    played : (row : Row) → Contains (map row_of_mitchell (mitchell_rows section)) row → row.table ≡ table + 1 →
        row.round ≡ round + 1 → ⊥
    played row (k, within, here) at_table at_round =
        let below : k < length (mitchell_rows section) = omega
        (arith, length-map (mitchell_rows section) row_of_mitchell) in
        let own : MitchellRow = get_or (mitchell_rows section) k (unlisted row) in
        let is : row_of_mitchell own ≡ row = sym (get_or-map row_of_mitchell (mitchell_rows section) k (unlisted row)
        row below) ∙ here in
        none (
          k,
          own,
          below,
          get_or_default (mitchell_rows section) k own (unlisted row) below,
          record {
            table = ap (λ (row : Row). row.table) is ∙ at_table;
            round = ap (λ (row : Row). row.round) is ∙ at_round;
          },
        )
      where
        unlisted : Row → MitchellRow
        unlisted row = record {
          round = row.round;
          table = row.table;
          set = row.set;
          north_south = row.north_south;
          east_west = row.east_west;
        }

    back : (row : Row) → Contains (rows_of_mitchell section) row → IsBefore table (round + 1) row →
        IsBefore table round row
    back row among (inl before) = inl before
    back row among (inr now) =
        elim (cases_eq row.round (round + 1)) [
          | inl same ↦ absurd (played row among now.0 same)
          | inr earlier ↦ inr (now.0, omega (arith, now.1))
        ]

pub all_made : (section : MitchellSection) → IsMitchell section → (sittings : List (Option Sitting)) (table : ℕ) →
    section.tables ≤ table → IsSoFar section sittings (IsAtTables table) → (row : Row) →
    Contains (kept_rows sittings) row ↔ Contains (rows_of_mitchell section) row
all_made section is_section sittings table all so_far row = (
  λ kept. ((so_far.held row).0 kept).0,
  λ among. let there = range section is_section row among in
      (so_far.held row).1 (among, omega (arith, there.to_table)),
)
