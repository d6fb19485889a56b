-- The tables that are scheduled to play a board of a movement.
use Rattle.std.proofs.Common.{
  ◌≡◌,
  ℕ,
  ◌+◌,
  ◌≤◌,
  ◌↔◌,
  nat_eq,
  List,
  [],
  inl,
  inr,
  sym,
  ◌∙◌,
  subst,
  true,
  false,
  Option,
  Some,
  None,
  is_some,
  IfSome,
  IfNone,
  arith,
}
use Rattle.std.specs.Prelude.{◌||◌}
use Rattle.std.proofs.lemmas.Bool.{cases_eq, or_cases, or_left, or_right, eqb-true, eq-eqb, false≢true}
use Rattle.small_sets.specs.Numbers.{has_number, with_number}
use Rattle.small_sets.proofs.NumbersLemmas.{has_with_number, set_with, within}
use Rattle.movement.specs.declared.cell.Cell.{Cell}
use Rattle.movement.specs.Movement.{most_tables}
use Rattle.movement.specs.Movement.{Section, IsCell, IsSection}
use Rattle.movement.proofs.CellLemmas.{cell_in_range}

-- the numbers are those of the tables so far that play the board
abbrev pub IsSoFar : Section → ℕ → List ℕ → ℕ → Type 0
IsSoFar section board numbers tables =
    (t : ℕ) → (has_number numbers t ≡ true) ↔ ((t ≤ tables) × IsCell section (record { table = t; board = board }))

pub so_far_none : (section : Section) (is_section : IsSection section) (board : ℕ) → IsSoFar section board [] 0
so_far_none section is_section board t = (
  λ held. absurd (false≢true held),
  λ found. let scheduled = cell_in_range section (record { table = t; board = board }) is_section found.1 in
      absurd (omega (arith, scheduled.from_table, found.0)),
)

pub so_far_more : (section : Section) (is_section : IsSection section) (board : ℕ) (numbers : List ℕ) (table : ℕ) →
    table + 1 ≤ most_tables →
    IsCell section (record { table = table + 1; board = board }) → IsSoFar section board numbers table →
    IsSoFar section board (with_number most_tables numbers (table + 1)) (table + 1)
so_far_more section is_section board numbers table below is_cell so_far t = (
  λ held.
      let range = within most_tables (with_number most_tables numbers (table + 1)) t
      (set_with most_tables numbers (table + 1)) held in
      let either = sym (has_with_number most_tables numbers (table + 1) t range.0 range.1) ∙ held in
      elim (or_cases (nat_eq t (table + 1)) (has_number numbers t) either) [
        | inl here ↦
            let same : t ≡ table + 1 = eqb-true t (table + 1) here in
            (omega arith, subst (λ k. IsCell section (record { table = k; board = board })) (sym same) is_cell)
        | inr before ↦ let found = (so_far t).0 before in (omega (arith, found.0), found.1)
      ],
  λ found.
      let scheduled = cell_in_range section (record { table = t; board = board }) is_section found.1 in
      has_with_number most_tables numbers (table + 1) t (omega (arith, scheduled.from_table)) (omega (arith, found.0))
      ∙ elim (cases_eq t (table + 1)) as (λ _. (nat_eq t (table + 1) || has_number numbers t) ≡ true) [
        | inl same ↦ or_left (nat_eq t (table + 1)) (has_number numbers t) (eq-eqb t (table + 1) same)
        | inr other ↦
            or_right (nat_eq t (table + 1)) (has_number numbers t) ((so_far t).1 (omega (arith, found.0), found.1))
      ],
)

pub so_far_same : (section : Section) (board : ℕ) (numbers : List ℕ) (table : ℕ) →
    ¬ IsCell section (record { table = table + 1; board = board }) → IsSoFar section board numbers table →
    IsSoFar section board numbers (table + 1)
so_far_same section board numbers table no_cell so_far t = (
  λ held. let found = (so_far t).0 held in (omega (arith, found.0), found.1),
  λ found. elim (cases_eq t (table + 1)) [
    | inl same ↦ absurd (no_cell (subst (λ k. IsCell section (record { table = k; board = board })) same found.1))
    | inr other ↦ (so_far t).1 (omega (arith, found.0), found.1)
  ],
)

pub so_far_all : (section : Section) (is_section : IsSection section) (board : ℕ) (numbers : List ℕ) →
    IsSoFar section board numbers section.tables →
    (t : ℕ) → (has_number numbers t ≡ true) ↔ IsCell section (record { table = t; board = board })
so_far_all section is_section board numbers so_far t = (
  λ held. ((so_far t).0 held).1,
  λ is_cell.
      let scheduled = cell_in_range section (record { table = t; board = board }) is_section is_cell in
      (so_far t).1 (omega (arith, scheduled.to_table), is_cell),
)

-- a cell that is found is one, and where none is found there is none
pub some_is_cell : (section : Section) (cell : Cell) (found : Option Cell) → is_some found ≡ true →
    IfSome found (λ here. here ≡ cell) → IfSome found (IsCell section) → IsCell section cell
some_is_cell section cell (Some here) some same is_cell = rw same at is_cell
some_is_cell section cell None some same is_cell = absurd (cc)

pub none_is_no_cell : (section : Section) (cell : Cell) (found : Option Cell) → is_some found ≡ false →
    IfNone found (¬ IsCell section cell) → ¬ IsCell section cell
none_is_no_cell section cell (Some here) missed never = absurd (cc)
none_is_no_cell section cell None missed never = never
