-- The results on a board that are looked for are those that are shown.
use Rattle.std.proofs.Common.{
  ◌≡◌,
  ℕ,
  zero,
  suc,
  ◌+◌,
  ◌<◌,
  Bool,
  true,
  false,
  List,
  [],
  ◌∷◌,
  ◌++◌,
  refl,
  sym,
  ap,
  ◌∙◌,
  arith,
  inl,
  inr,
}
use Rattle.std.specs.Prelude.{Option, Some, None, IfSome, All, cond, not, is_some, map, filter, filter_map}
use Rattle.std.specs.List.{range_with_len, cons_option}
use Rattle.std.specs.Option.{option_map, option_and_then}
use Rattle.std.proofs.lemmas.Bool.{cases_Bool, false_from_ne_true}
use Rattle.std.proofs.lemmas.List.Elements.{filter_map-append, All-cons}
use Rattle.movement.specs.declared.cell.Cell.{Cell}
use Rattle.movement.specs.Movement.{IsCell, IsSection}
use Rattle.movement.specs.Schedule.{is_scheduled}
use Rattle.movement.proofs.ScheduleTests.{scheduled-cell, cell-scheduled}
use Rattle.disclosure_rules.specs.declared.fact.Fact.TheVariants as fact
use Rattle.disclosure_rules.specs.declared.rule.Rule.{Rule}
use Rattle.disclosure_rules.specs.declared.viewer.Viewer.{Viewer}
use Rattle.disclosure_rules.specs.Policy.{first_rule}
use Rattle.session_state.specs.SessionState.{SessionState, cell_at}
use Rattle.standings.specs.declared.cell_result.CellResult.{CellResult}
use Rattle.standings.specs.declared.table_result.TableResult.{TableResult}
use Rattle.session_queries.specs.Content.{Content, result_of}
use Rattle.session_queries.specs.Facts.{cell_on, cells_of_board}
use Rattle.session_queries.specs.Reading.{as_result, result_at, shown_result, shown_results}
use Rattle.session_queries.specs.Results.{allowed_at, allowed_result, allowed_results}
use Rattle.session_queries.specs.Shown.{is_allowed, shown, content_shown}
use Rattle.session_queries.proofs.FactLemmas.{scheduled_there}
use Rattle.session_queries.proofs.ShownLemmas.{content_allowed, content_denied}

module _ (state : SessionState) (viewer : Viewer) where
  -- whether the table of a cell plays its board
  abbrev is_played : Cell → Bool
  is_played cell = is_scheduled state.public.movement cell

  -- where nobody forbids it, no rule does
  no_rule : (rule : Option Rule) → not (is_some rule) ≡ true → rule ≡ None
  no_rule None allowed = refl
  no_rule (Some rule) allowed = absurd (cc)

  -- the result of a cell that is shown, as that of the cell
  abbrev shown_at : Cell → Option TableResult
  shown_at cell = option_map (result_at cell) (shown_result (shown state viewer) cell)

  -- of a scheduled cell that result is shown which the user may see
  same_at : IsSection state.public.movement → (cell : Cell) → is_played cell ≡ true →
      shown_at cell ≡ allowed_at state viewer cell
  same_at is_section cell played =
      elim (cases_Bool (is_allowed state.public viewer (fact.Result cell))) [
        | inl allowed ↦
            ap (λ c. option_map (result_at cell) (option_and_then as_result c))
            (content_allowed state viewer (fact.Result cell)
            (scheduled_there state.public.movement cell is_section played) (no_rule _ allowed))
            ∙ sym (ap (λ b. cond b (option_map (result_at cell) (result_of (cell_at state cell))) None) allowed)
        | inr denied ↦
            ap (λ c. option_map (result_at cell) (option_and_then as_result c))
            (content_denied state viewer (fact.Result cell) denied)
            ∙ sym (ap (λ b. cond b (option_map (result_at cell) (result_of (cell_at state cell))) None) denied)
      ]

  -- the result of a table, where it plays the board
  pub allowed_there : (board table : ℕ) → is_played (cell_on board table) ≡ true →
      allowed_result state viewer board table ≡ allowed_at state viewer (cell_on board table)
  unfolding allowed_result
  allowed_there board table played = ap (λ b. cond b (allowed_at state viewer (cell_on board table)) None) played

  -- and nothing where it doesn't
  allowed_nowhere : (board table : ℕ) → is_played (cell_on board table) ≡ false → allowed_result state viewer board
      table ≡ None
  unfolding allowed_result
  allowed_nowhere board table idle = ap (λ b. cond b (allowed_at state viewer (cell_on board table)) None) idle

  -- what is shown of the results at some tables is what the user may see of them
  same_results : IsSection state.public.movement → (board : ℕ) (tables : List ℕ) →
      filter_map shown_at (filter is_played (map (cell_on board) tables)) ≡ filter_map
      (allowed_result state viewer board) tables
  same_results is_section board [] = refl
  same_results is_section board (table ∷ tables) =
      elim (cases_Bool (is_played (cell_on board table))) [
        | inl played ↦
            ap (λ b. filter_map shown_at (cond b (cell_on board table ∷ rest) rest)) played
            ∙ ((λ i. cons_option (same_at is_section (cell_on board table) played i) (same_results is_section board tables i))
            ∙ ap (λ o. cons_option o (filter_map (allowed_result state viewer board) tables))
            (sym (allowed_there board table played)))
        | inr idle ↦
            ap (λ b. filter_map shown_at (cond b (cell_on board table ∷ rest) rest)) idle
            ∙ (same_results is_section board tables
            ∙ ap (λ o. cons_option o (filter_map (allowed_result state viewer board) tables))
            (sym (allowed_nowhere board table idle)))
      ]
    where
      rest : List Cell
      rest = filter is_played (map (cell_on board) tables)

  -- what is shown of the results on a board is what the user may see of them
  pub results_shown : IsSection state.public.movement → (board : ℕ) →
      allowed_results state viewer board state.public.movement.tables ≡ shown_results state.public.movement
      (shown state viewer) board
  unfolding allowed_results
  results_shown is_section board = sym (same_results is_section board (range_with_len 1 state.public.movement.tables))

  -- a table that doesn't play a board has no result on it
  pub unscheduled : (board table : ℕ) → ¬ IsCell state.public.movement (cell_on board table) → None ≡ allowed_result
      state viewer board table
  unscheduled board table none =
      sym (allowed_nowhere board table
      (false_from_ne_true _ (λ test. none (scheduled-cell state.public.movement _ test))))

  -- a table that plays a board has the result that the user may see
  pub scheduled : (board table : ℕ) → IsCell state.public.movement (cell_on board table) →
      allowed_at state viewer (cell_on board table) ≡ allowed_result state viewer board table
  scheduled board table is_cell = sym (allowed_there board table (cell-scheduled state.public.movement _ is_cell))

  -- the result of a cell that a rule forbids, that there isn't, or that there is
  pub forbidden_at : (cell : Cell) (rule : Option Rule) → first_rule state.public viewer (fact.Result cell) ≡ rule →
      is_some rule ≡ true →
      None ≡ allowed_at state viewer cell
  forbidden_at cell None is forbids = absurd (cc)
  forbidden_at cell (Some rule) is forbids =
      sym (ap (λ r. cond (not (is_some r)) (option_map (result_at cell) (result_of (cell_at state cell))) None) is)

  pub free_at : (cell : Cell) (rule : Option Rule) (found : Option CellResult) → first_rule state.public viewer
      (fact.Result cell) ≡ rule →
      is_some rule ≡ false → result_of (cell_at state cell) ≡ found → option_map (result_at cell) found ≡ allowed_at
      state viewer cell
  free_at cell (Some rule) found is free there = absurd (cc)
  free_at cell None found is free there =
      sym (ap (λ r. cond (not (is_some r)) (option_map (result_at cell) (result_of (cell_at state cell))) None) is
      ∙ ap (option_map (result_at cell)) there)

  -- the results at so many tables, and at one more
  pub allowed_more : (board tables : ℕ) →
      allowed_results state viewer board (tables + 1) ≡ allowed_results state viewer board tables ++ cons_option
      (allowed_result state viewer board (tables + 1)) []
  unfolding allowed_results
  allowed_more board tables =
      ap (filter_map (allowed_result state viewer board)) (ap (range_with_len 1) one_more ∙ range_more 1 tables)
      ∙ (filter_map-append (allowed_result state viewer board) (range_with_len 1 tables) ((1 + tables) ∷ [])
      ∙ ap (λ n. filter_map (allowed_result state viewer board) (range_with_len 1 tables) ++ cons_option
      (allowed_result state viewer board n) []) (omega arith))
    where
      one_more : tables + 1 ≡ suc tables
      one_more = omega arith

      range_more : (first n : ℕ) → range_with_len first (suc n) ≡ range_with_len first n ++ (first + n) ∷ []
      range_more first zero = λ i. none_more i ∷ []
        where
          none_more : first ≡ first + 0
          none_more = omega arith
      range_more first (suc n) = ap (λ rest. first ∷ rest)
          (range_more (first + 1) n ∙ (λ i. range_with_len (first + 1) n ++ next i ∷ []))
        where
          next : first + 1 + n ≡ first + suc n
          next = omega arith

-- what holds of the item, where there is one, and of all others
pub all_more : {X : Type 0} (P : X → Type 0) (o : Option X) (rest : List X) → IfSome o P → All P rest →
    All P (cons_option o rest)
all_more P None rest one others = others
all_more P (Some x) rest one others = All-cons P x rest one others

module _ (state : SessionState) (viewer : Viewer) (board : ℕ) where
  -- a result is of a table that is scheduled to play its board, where there is one
  abbrev HasCell : Option TableResult → Type 0
  HasCell found = IfSome found (λ (found : TableResult). IsCell state.public.movement found.cell)

  seen : (cell : Cell) (found : Option CellResult) → IsCell state.public.movement cell → (allowed : Bool) →
      HasCell (cond allowed (option_map (result_at cell) found) None)
  seen cell (Some found) is_cell true = is_cell
  seen cell None is_cell true = tt
  seen cell found is_cell false = tt

  at_table : (table : ℕ) (played : Bool) → is_scheduled state.public.movement (cell_on board table) ≡ played →
      HasCell (cond played (allowed_at state viewer (cell_on board table)) None)
  at_table table false is = tt
  at_table table true is =
      seen (cell_on board table) (result_of (cell_at state (cell_on board table)))
      (scheduled-cell state.public.movement _ is)
      (is_allowed state.public viewer (fact.Result (cell_on board table)))

  of_table : (table : ℕ) → HasCell (allowed_result state viewer board table)
  unfolding allowed_result
  of_table table = at_table table _ refl

  among : (numbers : List ℕ) → All (λ found. IsCell state.public.movement found.cell)
      (filter_map (allowed_result state viewer board) numbers)
  among [] = λ k d below. absurd (omega arith)
  among (table ∷ numbers) =
      all_more _ (allowed_result state viewer board table) (filter_map (allowed_result state viewer board) numbers)
      (of_table table) (among numbers)

  -- the results that a user may see are each of a table that is scheduled to play the board
  pub allowed_cells : (tables : ℕ) → All (λ found. IsCell state.public.movement found.cell)
      (allowed_results state viewer board tables)
  unfolding allowed_results
  allowed_cells tables = among (range_with_len 1 tables)
