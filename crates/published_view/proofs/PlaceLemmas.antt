-- The facts of a section are those that have a place in it.
use Rattle.std.proofs.Common.{
  rules,
  ◌≡◌,
  ℕ,
  ◌+◌,
  ◌<◌,
  ◌≤◌,
  Bool,
  true,
  false,
  ◌||◌,
  List,
  [],
  ◌∷◌,
  map,
  Contains,
  refl,
  sym,
  ap,
  subst,
  ◌∙◌,
  inl,
  inr,
  arith,
}
use Rattle.std.specs.List.{flat_map, range_with_len}
use Rattle.std.proofs.lemmas.Bool.{cases_Bool, false≢true, false_from_ne_true}
use Rattle.movement.specs.declared.cell.Cell.{Cell}
use Rattle.movement.specs.Movement.{Section, IsSection, boards_of, has_board}
use Rattle.movement.specs.Schedule.{is_scheduled}
use Rattle.disclosure_rules.specs.declared.fact.Fact.{Fact}
use Rattle.disclosure_rules.specs.declared.fact.Fact.TheVariants as fact
use Rattle.session_queries.specs.Facts.{
  cell_on,
  cells_of_board,
  facts_of_cell,
  facts_of_board,
  boards,
  facts,
  same_fact,
  has_table_on,
  has_place,
}
use Rattle.session_queries.proofs.FactLemmas.{has_fact, same_fact_is, scheduled_there, has_scheduled}
use Rattle.published_view.proofs.ElementLemmas.{
  none_there,
  contains_first,
  contains_later,
  contains_cases,
  from_map,
  from_filter,
  from_flat,
  from_range,
}

-- a fact that is among some is in their list
pub fact_in : (items : List Fact) (asked : Fact) → has_fact items asked ≡ true → Contains items asked
fact_in [] asked there = absurd (false≢true there)
fact_in (item ∷ items) asked there =
    elim (cases_Bool (same_fact item asked)) [
      | inl same ↦ subst (Contains (item ∷ items)) (same_fact_is item asked same) (contains_first item items)
      | inr other ↦ contains_later item items asked
          (fact_in items asked (sym (ap (λ b. b || has_fact items asked) other) ∙ there))
    ]

module _ (section : Section) where
  -- a fact of a cell of the section has a place
  cell_has : (cell : Cell) (asked : Fact) → has_table_on section cell ≡ true → Contains (facts_of_cell cell) asked →
      has_place section asked ≡ true
  cell_has cell asked has there =
      elim (contains_cases (fact.Result cell) (fact.Play cell ∷ fact.Cost cell ∷ fact.Reason cell ∷ []) asked there) [
        | inl is ↦ of_it (fact.Result cell) is has
        | inr there ↦ elim (contains_cases (fact.Play cell) (fact.Cost cell ∷ fact.Reason cell ∷ []) asked there) [
          | inl is ↦ of_it (fact.Play cell) is has
          | inr there ↦ elim (contains_cases (fact.Cost cell) (fact.Reason cell ∷ []) asked there) [
            | inl is ↦ of_it (fact.Cost cell) is has
            | inr there ↦ elim (contains_cases (fact.Reason cell) [] asked there) [
              | inl is ↦ of_it (fact.Reason cell) is has
              | inr there ↦ none_there asked there
            ]
          ]
        ]
      ]
    where
      of_it : (item : Fact) → item ≡ asked → has_place section item ≡ true → has_place section asked ≡ true
      of_it item is has = subst (λ f. has_place section f ≡ true) is has

  -- the section has each of its tables on each of its boards that the table plays
  has_table : (board table : ℕ) → has_board section board ≡ true → 1 ≤ table → table < 1 + section.tables →
      is_scheduled section (cell_on board table) ≡ true → has_table_on section (cell_on board table) ≡ true
  has_table board table has from below scheduled =
      let to : table ≤ section.tables = omega (arith, below) in
      search (has, from, to, scheduled, rules)

  -- so has a fact of a board of the section
  board_has : (board : ℕ) (asked : Fact) → has_board section board ≡ true → Contains (facts_of_board section board)
      asked → has_place section asked ≡ true
  board_has board asked has there =
      elim (contains_cases (fact.Hands board) (fact.Analysis board ∷ flat_map facts_of_cell
      (cells_of_board section board)) asked there) [
        | inl is ↦ subst (λ f. has_place section f ≡ true) is has
        | inr there ↦ elim (contains_cases (fact.Analysis board) (flat_map facts_of_cell (cells_of_board section board))
            asked there) [
              | inl is ↦ subst (λ f. has_place section f ≡ true) is has
              | inr there ↦
                  let of_cell = from_flat facts_of_cell (cells_of_board section board) asked there in
                  let kept = from_filter (is_scheduled section) (map (cell_on board) (range_with_len 1 section.tables))
                  of_cell.0 of_cell.1 in
                  let at = from_map (cell_on board) (range_with_len 1 section.tables) of_cell.0 kept.0 in
                  let range = from_range 1 section.tables at.0 at.1 in
                  cell_has of_cell.0 asked (subst (λ cell. has_table_on section cell ≡ true) at.2
                  (has_table board at.0 has range.0 range.1 (ap (is_scheduled section) at.2 ∙ kept.1))) of_cell.2
            ]
      ]

  -- so has each fact of the section
  pub fact_has : (asked : Fact) → Contains (facts section) asked → has_place section asked ≡ true
  fact_has asked there =
      elim (contains_cases fact.Public (fact.Accounts ∷ flat_map (facts_of_board section) (boards section)) asked there) [
        | inl is ↦ subst (λ f. has_place section f ≡ true) is refl
        | inr there ↦ elim (contains_cases fact.Accounts (flat_map (facts_of_board section) (boards section)) asked
            there) [
              | inl is ↦ subst (λ f. has_place section f ≡ true) is refl
              | inr there ↦
                  let of_board = from_flat (facts_of_board section) (boards section) asked there in
                  let range = from_range 1 (boards_of section) of_board.0 of_board.1 in
                  board_has of_board.0 asked (in_section of_board.0 range.0 range.1) of_board.2
            ]
      ]
    where
      in_section : (board : ℕ) → 1 ≤ board → board < 1 + boards_of section → has_board section board ≡ true
      in_section board from below =
          let to : board ≤ boards_of section = omega (arith, below) in
          search (from, to, rules)

-- a kept section has a table on a board exactly where the table is scheduled to play it
pub place_is : (section : Section) (cell : Cell) → IsSection section → is_scheduled section cell ≡ has_table_on section
    cell
place_is section cell is_section = by (is_scheduled section cell) refl
  where
    by : (scheduled : Bool) → is_scheduled section cell ≡ scheduled → is_scheduled section cell ≡ has_table_on section
        cell
    by true is = is ∙ sym (scheduled_there section cell is_section is)
    by false is = is ∙ sym (false_from_ne_true _ (λ has. false≢true (sym is ∙ has_scheduled section cell has)))
