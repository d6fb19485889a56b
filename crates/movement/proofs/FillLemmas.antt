-- The rows of a list whose pairs are there, put at their places one after another.
use Rattle.std.proofs.Common.{
  ◌≡◌,
  ℕ,
  zero,
  suc,
  ◌+◌,
  ◌<◌,
  ◌≤◌,
  true,
  false,
  List,
  [],
  ◌∷◌,
  ◌++◌,
  length,
  take,
  filter,
  get_or,
  refl,
  sym,
  ap,
  ◌∙◌,
  subst,
  inl,
  inr,
  Contains,
  replicate,
  arith,
}
use Rattle.std.specs.Prelude.{Option, Some, None, ◌↔◌, ◌⊎◌, slice_index_or, slice_set}
use Rattle.std.proofs.lemmas.Bool.{false≢true}
use Rattle.std.proofs.lemmas.List.{take_more, take_all, get_or-replicate, length-set, length-replicate}
use Rattle.std.proofs.lemmas.List.Elements.{
  Contains-append_left,
  Contains-append_right,
  Contains-append_cases,
  Contains-get_or,
}
use Rattle.table_terms.specs.declared.pair.Pair.{Pair}
use Rattle.movement.specs.Movement.{most_tables}
use Rattle.mitchell.proofs.ContainsLemmas.{Contains-filter, filter-contains, filter-passed}
use Rattle.movement.specs.declared.limits.Limits.{Limits}
use Rattle.movement.specs.declared.row.Row.{Row}
use Rattle.movement.specs.declared.sitting.Sitting.{Sitting}
use Rattle.movement.specs.Kept.{places, place_of, sitting_of, kept_rows}
use Rattle.movement.specs.Movement.{most_sets}
use Rattle.movement.specs.Listed.{are_there}
use Rattle.movement.specs.Sound.{IsInRange, IsSound}
use Rattle.movement.proofs.KeptLemmas.{kept_row}
use Rattle.movement.proofs.MadeLemmas.{put_one}

-- what is kept are these rows
abbrev pub HoldsRows : List (Option Sitting) → List Row → Type 0
HoldsRows sittings rows = (row : Row) → Contains (kept_rows sittings) row ↔ Contains rows row

-- nothing is kept at first
pub fill_none : HoldsRows (replicate places None) []
fill_none row = (
  λ among.
      let kept = kept_row (replicate places None) row among in
      let none : slice_index_or (replicate places None) kept.place None ≡ None =
      get_or-replicate places kept.place None None kept.below in
      absurd (nothing (sym none ∙ kept.here)),
  λ (k, within, here). absurd (omega arith),
)
  where
    nothing : {sitting : Sitting} → None ≡ Some sitting → ⊥
    nothing same = cc

single : (first x : Row) → Contains (first ∷ []) x → first ≡ x
single first x (k, within, here) = by_place k within here
  where
    by_place : (k : ℕ) → k < 1 → get_or (first ∷ []) k x ≡ x → first ≡ x
    by_place zero below here = here
    by_place (suc k) below here = absurd (omega arith)

-- a row whose pairs are there, among the first so many
pub record IsPut (absent : Option Pair) (rows : List Row) (at : ℕ) (row : Row) : Type 0 where
  pub there : are_there absent row ≡ true
  pub early : Contains (take at rows) row

-- what is kept are the rows so far whose pairs are there
pub record IsFilled (absent : Option Pair) (rows : List Row) (sittings : List (Option Sitting)) (at : ℕ) : Type 0 where
  pub long : length sittings ≡ places
  pub held : (row : Row) → Contains (kept_rows sittings) row ↔ (Contains rows row × IsPut absent rows at row)

pub begun : (absent : Option Pair) (rows : List Row) → IsFilled absent rows (replicate places None) 0
begun absent rows = record {
  long = length-replicate {A = Option Sitting} places None;
  held = λ row. (
    λ kept. let (k, within, here) = (fill_none row).0 kept in absurd (omega arith),
    λ both. let (k, within, here) = both.1.early in absurd (omega arith),
  );
}

module _ (absent : Option Pair) (rows : List Row) (sittings : List (Option Sitting)) (at : ℕ) (d : Row)
    (within : at < length rows) (filled : IsFilled absent rows sittings at) where
  row : Row
  row = get_or rows at d

  more : take (at + 1) rows ≡ take at rows ++ get_or rows at d ∷ []
  more = take_more rows at d within

  -- whoever is among one row more is among those before, or is that row
  or_last : (other : Row) → Contains (take (at + 1) rows) other →
      Contains (take at rows) other ⊎ (get_or rows at d ≡ other)
  or_last other early =
      elim (Contains-append_cases (take at rows) (get_or rows at d ∷ []) other
      (subst (λ (taken : List Row). Contains taken other) more early)) [
        | inl before ↦ inl before
        | inr last ↦ inr (single (get_or rows at d) other last)
      ]

  still : (other : Row) → Contains (take at rows) other → Contains (take (at + 1) rows) other
  still other early =
      subst (λ (taken : List Row). Contains taken other) (sym more)
      (Contains-append_left (take at rows) (get_or rows at d ∷ []) other early)

  last_of_all : Contains (take (at + 1) rows) (get_or rows at d)
  last_of_all =
      subst (λ (taken : List Row). Contains taken (get_or rows at d)) (sym more)
      (Contains-append_right (take at rows) (get_or rows at d ∷ []) (get_or rows at d) (0, omega arith, refl))

  -- a row with an absent pair is left out
  pub left_out : are_there absent (get_or rows at d) ≡ false → IsFilled absent rows sittings (at + 1)
  left_out gone = record {
    long = filled.long;
    held = λ other. (
      λ kept.
          let both = (filled.held other).0 kept in
          (both.0, record { there = both.1.there; early = still other both.1.early }),
      λ both. elim (or_last other both.1.early) [
        | inl before ↦ (filled.held other).1 (both.0, record { there = both.1.there; early = before })
        | inr last ↦
            absurd (false≢true (sym (ap (are_there absent) (sym last) ∙ gone) ∙ both.1.there))
      ],
    );
  }

  module _ (limits : Limits) (sound : IsSound limits rows) (tables : limits.tables ≤ most_tables)
      (sets : limits.sets ≤ most_sets) (there : are_there absent (get_or rows at d) ≡ true) where
    range : IsInRange limits (get_or rows at d)
    range = sound.in_range at d within

    -- and another is put at its place
    pub put_there : (put : List (Option Sitting)) →
        put ≡ slice_set sittings (place_of (get_or rows at d).set (get_or rows at d).table)
        (Some (sitting_of (get_or rows at d))) →
        IsFilled absent rows put (at + 1)
    put_there put is_put = record {
      long = ap length is_put ∙ length-set sittings _ _ ∙ filled.long;
      held = λ other.
          subst (λ (put : List (Option Sitting)). Contains (kept_rows put) other ↔
          (Contains rows other × IsPut absent rows (at + 1) other)) (sym is_put)
          (put_one limits rows sound (IsPut absent rows at) (IsPut absent rows (at + 1)) sittings (get_or rows at d)
          (Contains-get_or rows at d within) range.from_set (omega (arith, range.to_set)) range.from_table
          (omega (arith, range.to_table)) filled.long filled.held
          (λ other in_other. (
            λ after. elim (or_last other after.early) [
              | inl before ↦ inl (record { there = after.there; early = before })
              | inr last ↦ inr last
            ],
            λ either. elim either [
              | inl before ↦ record { there = before.there; early = still other before.early }
              | inr last ↦
                  subst (IsPut absent rows (at + 1)) last (record { there = there; early = last_of_all })
            ],
          )) other);
    }

pub filled_all : (absent : Option Pair) (rows : List Row) (sittings : List (Option Sitting)) (at : ℕ) →
    length rows ≤ at → IsFilled absent rows sittings at → HoldsRows sittings (filter (are_there absent) rows)
filled_all absent rows sittings at end filled row = (
  λ kept.
      let both = (filled.held row).0 kept in
      Contains-filter (are_there absent) rows row both.1.there both.0,
  λ among.
      let is_section = filter-contains (are_there absent) rows row among in
      (filled.held row).1 (
        is_section,
        record {
          there = filter-passed (are_there absent) rows row among;
          early = subst (λ (taken : List Row). Contains taken row) (sym (take_all at rows end)) is_section;
        },
      ),
)
