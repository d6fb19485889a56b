-- The Mitchell movement, put at its places table by table and round by round.
use Rattle.std.proofs.Common.{
  ◌≡◌,
  ℕ,
  ◌+◌,
  ◌-◌,
  ◌/◌,
  ◌%◌,
  ◌≤◌,
  List,
  length,
  map,
  sym,
  ap,
  ◌∙◌,
  subst,
  inl,
  inr,
  Any,
  Contains,
  arith,
}
use Rattle.std.specs.Prelude.{Option, Some, None, ◌↔◌, ◌⊎◌, slice_index_or, slice_set}
use Rattle.std.proofs.lemmas.Bool.{cases_eq}
use Rattle.std.proofs.lemmas.List.{get_or-map, length-map, get_or-set_same, get_or-set_other}
use Rattle.table_terms.specs.declared.pair.Pair.{Pair}
use Rattle.table_terms.specs.declared.side.Side.TheVariants.{NorthSouth}
use Rattle.mitchell.specs.Mitchell.{MitchellSection, IsMitchell, mitchell_rows, MitchellRow, most_tables, east_west_table}
use Rattle.mitchell.specs.MitchellRow.{IsAtTable}
use Rattle.mitchell.proofs.RowLemmas.{made_of, in_range}
use Rattle.movement.specs.declared.limits.Limits.{Limits}
use Rattle.movement.specs.declared.row.Row.{Row}
use Rattle.movement.specs.declared.sitting.Sitting.{Sitting}
use Rattle.movement.specs.Kept.{places, place_of, sitting_of, row_of_sitting, kept_rows}
use Rattle.movement.specs.Movement.{most_sets}
use Rattle.movement.specs.Mitchell.{row_of_mitchell, rows_of_mitchell}
use Rattle.movement.specs.Sound.{IsSound}
use Rattle.movement.proofs.ApartLemmas.{same_cell}
use Rattle.movement.proofs.KeptLemmas.{kept_row, row_kept}

-- ---- the row of a table in a round

Contains-map : {X Y : Type 0} (f : X → Y) (xs : List X) (x : X) → Contains xs x → Contains (map f xs) (f x)
Contains-map f xs x (k, within, here) =
    (k, omega (arith, length-map xs f), get_or-map f xs k x (f x) within ∙ ap f here)

pub row_made : (section : MitchellSection) → IsMitchell section → (table round set : ℕ) (east_west : Pair) →
    set ≡ (table - 1 + (round - 1)) % section.tables + 1 → (row : MitchellRow) → Contains (mitchell_rows section) row →
    IsAtTable row table round → row.east_west ≡ east_west →
    row_of_mitchell row ≡ record {
      round = round;
      table = table;
      set = set;
      north_south = record { side = NorthSouth; number = table };
      east_west = east_west;
    }
row_made section is_section table round set east_west is_set row among at is_pair =
    let made = made_of section row among in
    let range = in_range section row among in
    let its_table : east_west_table section.tables made.pair made.round ≡ table - 1 =
    omega (arith, at.table) in
    let its_round : made.round ≡ round - 1 = omega (arith, at.round) in
    let its_set : row.set ≡ set = made.is_set ∙ (λ i. (its_table i + its_round i) % section.tables + 1) ∙ sym is_set in
    let north : row.north_south ≡ record { side = NorthSouth; number = table } =
    range.north_south ∙ (λ i. record { side = NorthSouth; number = at.table i }) in
    λ i. record {
      round = at.round i;
      table = at.table i;
      set = its_set i;
      north_south = north i;
      east_west = is_pair i;
    }

pub row_among : (section : MitchellSection) → IsMitchell section → (table round set : ℕ) (east_west : Pair) →
    set ≡ (table - 1 + (round - 1)) % section.tables + 1 →
    ((row : MitchellRow) → Contains (mitchell_rows section) row → IsAtTable row table round →
    row.east_west ≡ east_west) →
    Any (λ row. IsAtTable row table round) (mitchell_rows section) →
    Contains (rows_of_mitchell section) (record {
      round = round;
      table = table;
      set = set;
      north_south = record { side = NorthSouth; number = table };
      east_west = east_west;
    })
unfolding rows_of_mitchell
row_among section is_section table round set east_west is_set played (k, row, within, here, at) =
    subst (Contains (map row_of_mitchell (mitchell_rows section)))
    (row_made section is_section table round set east_west is_set row (k, within, here) at
    (played row (k, within, here) at))
    (Contains-map row_of_mitchell (mitchell_rows section) row (k, within, here))

-- ---- one row more

module _ (limits : Limits) (all : List Row) (sound : IsSound limits all) (before after : Row → Type 0)
    (sittings : List (Option Sitting)) (row : Row) (among : Contains all row)
    (from_set : 1 ≤ row.set) (to_set : row.set ≤ most_sets)
    (from_table : 1 ≤ row.table) (to_table : row.table ≤ most_tables) (long : length sittings ≡ places)
    (held : (other : Row) → Contains (kept_rows sittings) other ↔ (Contains all other × before other))
    (more : (other : Row) → Contains all other → after other ↔ (before other ⊎ (row ≡ other))) where
  abbrev put : List (Option Sitting)
  put = slice_set sittings (place_of row.set row.table) (Some (sitting_of row))

  here : row_of_sitting (place_of row.set row.table) (sitting_of row) ≡ row
  here =
      let table : place_of row.set row.table % 16 + 1 ≡ row.table = omega arith in
      let set : place_of row.set row.table / 16 + 1 ≡ row.set = omega arith in
      λ i. record {
        round = row.round;
        table = table i;
        set = set i;
        north_south = row.north_south;
        east_west = row.east_west;
      }

  itself : Contains (kept_rows put) row
  itself =
      subst (Contains (kept_rows put)) here (row_kept put (place_of row.set row.table) (sitting_of row) (omega arith)
      (get_or-set_same sittings (place_of row.set row.table) (Some (sitting_of row)) None (omega arith)))

  stands : (other : Row) → Contains (kept_rows put) other → Contains all other × after other
  stands other kept_there =
      let kept = kept_row put other kept_there in
      elim (cases_eq kept.place (place_of row.set row.table)) [
        | inl same ↦
            let is_put : slice_index_or put kept.place None ≡ Some (sitting_of row) =
            ap (λ place. slice_index_or put place None) same
            ∙ get_or-set_same sittings (place_of row.set row.table) (Some (sitting_of row)) None (omega arith) in
            let sitting : sitting_of row ≡ kept.sitting = given (sym is_put ∙ kept.here) in
            let one : row ≡ other =
            sym here ∙ (λ i. row_of_sitting (sym same i) (sitting i)) ∙ kept.made in
            (subst (Contains all) one among, (more other (subst (Contains all) one among)).1 (inr one))
        | inr elsewhere ↦
            let was : slice_index_or sittings kept.place None ≡ Some kept.sitting =
            sym (get_or-set_other sittings (place_of row.set row.table) kept.place (Some (sitting_of row)) None
            elsewhere) ∙ kept.here in
            let old : Contains (kept_rows sittings) other =
            subst (Contains (kept_rows sittings)) kept.made (row_kept sittings kept.place kept.sitting kept.below
            was) in
            let both = (held other).0 old in
            (both.0, (more other both.0).1 (inl both.1))
      ]
    where
      given : {one other : Sitting} → Some one ≡ Some other → one ≡ other
      given same = cc

  is_kept : (other : Row) → Contains all other × after other → Contains (kept_rows put) other
  is_kept other both =
      elim ((more other both.0).0 both.1) [
        | inl earlier ↦ was_kept ((held other).1 (both.0, earlier))
        | inr one ↦ subst (Contains (kept_rows put)) one itself
      ]
    where
      was_kept : Contains (kept_rows sittings) other → Contains (kept_rows put) other
      was_kept old =
          let kept = kept_row sittings other old in
          let table : kept.place % 16 + 1 ≡ other.table = kept.table in
          let set : kept.place / 16 + 1 ≡ other.set = kept.set in
          elim (cases_eq kept.place (place_of row.set row.table)) [
            | inl same ↦
                subst (Contains (kept_rows put))
                (same_cell limits all row other sound among both.0 (omega arith) (omega arith)) itself
            | inr elsewhere ↦
                subst (Contains (kept_rows put)) kept.made (row_kept put kept.place kept.sitting kept.below
                (get_or-set_other sittings (place_of row.set row.table) kept.place (Some (sitting_of row)) None
                elsewhere ∙ kept.here))
          ]

  pub put_one : (other : Row) →
      Contains (kept_rows (slice_set sittings (place_of row.set row.table) (Some (sitting_of row)))) other ↔
      (Contains all other × after other)
  put_one other = (stands other, is_kept other)
