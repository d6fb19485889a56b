-- All results on a board, as they are looked for; where the hands of the board are shown, so are they.
use Rattle.std.proofs.Common.{
  ◌≡◌,
  ℕ,
  ◌+◌,
  ◌-◌,
  ◌<◌,
  ◌≤◌,
  Bool,
  All,
  true,
  false,
  cond,
  zero,
  suc,
  List,
  [],
  ◌∷◌,
  ◌++◌,
  length,
  refl,
  sym,
  ap,
  ◌∙◌,
  subst,
  inl,
  inr,
  arith,
}
use Rattle.std.specs.Prelude.{Option, Some, None, IfSome, is_some, is_none, not, ◌&&◌, if◌then◌else◌, slice_get, nat_le}
use Rattle.std.specs.List.{filter_map, flat_map, range_with_len, sum_by, cons_option}
use Rattle.std.specs.Option.{option_map, option_and_then}
use Rattle.std.proofs.lemmas.List.Elements.{filter_map-append}
use Rattle.std.proofs.lemmas.Bool.{false_from_ne_true, cases_Bool, false≢true, and_left, and_right, le-leb}
use Rattle.std.proofs.lemmas.List.Sums.{sum_by-append}
use Rattle.session_roles.specs.declared.role.Role.TheVariants.{Director}
use Rattle.cards.specs.Hands.{Hands}
use Rattle.movement.specs.declared.cell.Cell.{Cell}
use Rattle.movement.specs.Movement.{IsSection, IsCell, boards_of, has_board}
use Rattle.movement.specs.Schedule.{is_scheduled}
use Rattle.movement.proofs.CellLemmas.{cell_in_range}
use Rattle.movement.proofs.ScheduleTests.{scheduled-cell, cell-scheduled}
use Rattle.disclosure_rules.specs.declared.fact.Fact.{Fact}
use Rattle.disclosure_rules.specs.declared.fact.Fact.TheVariants as fact
use Rattle.disclosure_rules.specs.declared.marks.Marks.{Marks}
use Rattle.disclosure_rules.specs.declared.rule.Rule.{Rule}
use Rattle.disclosure_rules.specs.declared.rule.Rule.TheVariants.{
  NoAccount,
  NotAMember,
  AccountsAreClosed,
  SessionIsEmbargoed,
  BoardIsHeld,
  StillToPlay,
  OthersStillPlay,
  NeitherContestantNorSpectator,
  BoardIsIncomplete,
  AnalysisWaits,
  PlayWaits,
  ReasonIsForThePairs,
  NoResult,
}
use Rattle.disclosure_rules.specs.declared.viewer.Viewer.{Viewer}
use Rattle.disclosure_rules.specs.LiveCells.{is_live}
use Rattle.disclosure_rules.specs.Policy.{is_authorized, guarded, guarding, forbids, first_rule}
use Rattle.disclosure_rules.specs.Seating.{some_that}
use Rattle.disclosure_rules.proofs.FirstLemmas.{first_forbids, none_forbids}
use Rattle.session_state.specs.SessionState.{SessionState, cell_at, cell_index, IsPlaced, AreLive}
use Rattle.session_state.proofs.ScheduleLemmas.{placed}
use Rattle.session_commands.specs.CellState.{has_result}
use Rattle.session_commands.specs.declared.cell_state.CellState.{CellState}
use Rattle.session_commands.specs.declared.cell_state.CellState.TheVariants.{Empty, Entered, Confirmed, Ruled}
use Rattle.standings.specs.declared.earning.Earning.{Earning}
use Rattle.standings.specs.declared.table_result.TableResult.{TableResult}
use Rattle.standings.specs.Ranking.{earnings_of}
use Rattle.session_queries.specs.Content.{result_of}
use Rattle.session_queries.specs.Facts.{cell_on, boards}
use Rattle.session_queries.specs.Reading.{result_at, shown_results, shown_hands, shown_marks}
use Rattle.session_queries.specs.Results.{allowed_at, allowed_result, allowed_results, live_result, live_results}
use Rattle.session_queries.specs.Shown.{Shown, is_allowed, shown}
use Rattle.session_queries.proofs.ResultLemmas.{results_shown, all_more}
use Rattle.standings.specs.declared.cell_result.CellResult.{CellResult}

range_more : (first n : ℕ) → range_with_len first (suc n) ≡ range_with_len first n ++ (first + n) ∷ []
range_more first zero = λ i. none_more i ∷ []
  where
    none_more : first ≡ first + 0
    none_more = omega arith
range_more first (suc n) = ap (λ rest. first ∷ rest)
    (range_more (first + 1) n ∙ (λ i. range_with_len (first + 1) n ++ next i ∷ []))
  where
    next : first + 1 + n ≡ first + suc n
    next = omega arith

module _ (state : SessionState) (board : ℕ) where
  -- a table that doesn't play a board has no result on it
  pub unscheduled : (table : ℕ) → ¬ IsCell state.public.movement (cell_on board table) → None ≡ live_result state board
      table
  unscheduled table none =
      sym (ap (λ b. cond b (option_map (result_at (cell_on board table))
      (result_of (cell_at state (cell_on board table)))) None)
      (false_from_ne_true _ (λ test. none (scheduled-cell state.public.movement _ test))))

  -- a table that plays a board has the result of its cell
  pub scheduled : (table : ℕ) → IsCell state.public.movement (cell_on board table) →
      option_map (result_at (cell_on board table)) (result_of (cell_at state (cell_on board table))) ≡ live_result state
      board table
  scheduled table is_cell =
      sym (ap (λ b. cond b (option_map (result_at (cell_on board table))
      (result_of (cell_at state (cell_on board table)))) None)
      (cell-scheduled state.public.movement _ is_cell))

  -- the results at one table more
  pub live_more : (tables : ℕ) →
      filter_map (live_result state board) (range_with_len 1 (tables + 1))
      ≡ filter_map (live_result state board) (range_with_len 1 tables) ++ cons_option
      (live_result state board (tables + 1)) []
  live_more tables =
      ap (filter_map (live_result state board)) (ap (range_with_len 1) one_more ∙ range_more 1 tables)
      ∙ (filter_map-append (live_result state board) (range_with_len 1 tables) ((1 + tables) ∷ [])
      ∙ ap (λ n. filter_map (live_result state board) (range_with_len 1 tables) ++ cons_option
      (live_result state board n) []) (omega arith))
    where
      one_more : tables + 1 ≡ suc tables
      one_more = omega arith

  abbrev HasCell : Option TableResult → Type 0
  HasCell found = IfSome found (λ (found : TableResult). IsCell state.public.movement found.cell)

  of_cell : (cell : Cell) (found : Option CellResult) → IsCell state.public.movement cell →
      HasCell (option_map (result_at cell) found)
  of_cell cell (Some found) is_cell = is_cell
  of_cell cell None is_cell = tt

  of_table : (table : ℕ) (played : Bool) → is_scheduled state.public.movement (cell_on board table) ≡ played →
      HasCell (cond played (option_map (result_at (cell_on board table))
      (result_of (cell_at state (cell_on board table)))) None)
  of_table table false is = tt
  of_table table true is =
      of_cell (cell_on board table) (result_of (cell_at state (cell_on board table)))
      (scheduled-cell state.public.movement _ is)

  among : (numbers : List ℕ) → All (λ found. IsCell state.public.movement found.cell)
      (filter_map (live_result state board) numbers)
  among [] = λ k d below. absurd (omega arith)
  among (table ∷ numbers) =
      all_more _ (live_result state board table) (filter_map (live_result state board) numbers) (of_table table _ refl)
      (among numbers)

  -- all results are each of a table that is scheduled to play the board
  pub live_cells : All (λ found. IsCell state.public.movement found.cell) (live_results state board)
  unfolding live_results
  live_cells = among (range_with_len 1 state.public.movement.tables)

-- without a result there is none to tell
no_result_of : (known : CellState) → has_result known ≡ false → result_of known ≡ None
no_result_of Empty none = refl
no_result_of (Entered outcome play) none = refl
no_result_of (Confirmed outcome play costs) none = absurd (false≢true (sym none))
no_result_of (Ruled north_south east_west reason) none = absurd (false≢true (sym none))

not_true : (b : Bool) → not b ≡ true → b ≡ false
not_true true is = absurd (false≢true is)
not_true false is = refl

module _ (state : SessionState) (viewer : Viewer) (board : ℕ) (seen : first_rule state.public viewer (fact.Hands board)
    ≡ None) where
  -- no rule that looks at the board alone forbids what belongs to it
  by_board : {X : Type 0} (cell : Cell) → cell.board ≡ board → (test : ℕ → Bool) → guarding viewer (fact.Hands board)
      test ≡ false → guarding viewer (fact.Result cell) test ≡ true → X
  by_board cell own test allowed forbidden =
      absurd (false≢true (sym allowed ∙ (ap (λ b. some_that (guarded viewer (Some b)) test) (sym own) ∙ forbidden)))

  -- a test that never holds forbids nothing
  never : {A : Type 0} (secret : Option A) (test : A → Bool) → ((a : A) → test a ≡ false) →
      some_that (guarded viewer secret) test ≡ false
  never {A} secret test none = by (is_authorized viewer.roles Director) secret
    where
      by : (b : Bool) (secret : Option A) → some_that (if b then None else secret) test ≡ false
      by true secret = refl
      by false None = refl
      by false (Some a) = none a

  -- where a director looks, no rule forbids; else the table has no result
  no_live : (cell : Cell) → some_that (guarded viewer (Some cell)) (λ cell. not (is_live state.public.live cell)) ≡
      true → is_live state.public.live cell ≡ false
  no_live cell forbidden = by (is_authorized viewer.roles Director) forbidden
    where
      by : (b : Bool) → some_that (if b then None else Some cell) (λ cell. not (is_live state.public.live cell)) ≡
          true → is_live state.public.live cell ≡ false
      by true is = absurd (false≢true is)
      by false is = not_true _ is

  -- the rule that forbids a result where the hands are shown is that there is none
  only_rule : (cell : Cell) → cell.board ≡ board → (rule : Rule) → forbids rule state.public viewer (fact.Result cell) ≡
      true → is_live state.public.live cell ≡ false
  only_rule cell own NoAccount forbidden =
      absurd (false≢true (sym (none_forbids state.public viewer (fact.Hands board) seen NoAccount) ∙ forbidden))
  only_rule cell own NotAMember forbidden =
      absurd (false≢true (sym (none_forbids state.public viewer (fact.Hands board) seen NotAMember) ∙ forbidden))
  only_rule cell own AccountsAreClosed forbidden = absurd (false≢true forbidden)
  only_rule cell own SessionIsEmbargoed forbidden = by_board cell own _
      (none_forbids state.public viewer (fact.Hands board) seen SessionIsEmbargoed) forbidden
  only_rule cell own BoardIsHeld forbidden = by_board cell own _ (none_forbids state.public viewer (fact.Hands board)
      seen BoardIsHeld) forbidden
  only_rule cell own StillToPlay forbidden = by_board cell own _ (none_forbids state.public viewer (fact.Hands board)
      seen StillToPlay) forbidden
  only_rule cell own OthersStillPlay forbidden = by_board cell own _
      (none_forbids state.public viewer (fact.Hands board) seen OthersStillPlay) forbidden
  only_rule cell own NeitherContestantNorSpectator forbidden =
      by_board cell own _ (none_forbids state.public viewer (fact.Hands board) seen NeitherContestantNorSpectator)
      forbidden
  only_rule cell own BoardIsIncomplete forbidden = by_board cell own _
      (none_forbids state.public viewer (fact.Hands board) seen BoardIsIncomplete) forbidden
  only_rule cell own AnalysisWaits forbidden =
      absurd (false≢true (sym (never (Some cell.board) _ (λ b. refl)) ∙ forbidden))
  only_rule cell own PlayWaits forbidden = absurd (false≢true (sym (never (Some cell) _ (λ c. refl)) ∙ forbidden))
  only_rule cell own ReasonIsForThePairs forbidden =
      absurd (false≢true (sym (never (Some cell) _ (λ c. refl)) ∙ forbidden))
  only_rule cell own NoResult forbidden = no_live cell forbidden

  module _ (is_section : IsSection state.public.movement) (live : AreLive state.public.live state.cells) where
    -- so each result is shown
    all_at : (cell : Cell) → cell.board ≡ board → IsPlaced cell → allowed_at state viewer cell ≡ option_map
        (result_at cell) (result_of (cell_at state cell))
    all_at cell own is_placed = by (first_rule state.public viewer (fact.Result cell)) refl
      where
        by : (rule : Option Rule) → first_rule state.public viewer (fact.Result cell) ≡ rule →
            allowed_at state viewer cell ≡ option_map (result_at cell) (result_of (cell_at state cell))
        by None is = ap (λ r. cond (not (is_some r)) (option_map (result_at cell) (result_of (cell_at state cell)))
            None) is
        by (Some rule) is =
            let none : result_of (cell_at state cell) ≡ None =
            no_result_of (cell_at state cell) (sym (live cell is_placed) ∙ only_rule cell own rule
            (first_forbids state.public viewer (fact.Result cell) rule is)) in
            ap (λ r. cond (not (is_some r)) (option_map (result_at cell) (result_of (cell_at state cell))) None) is
            ∙ sym (ap (option_map (result_at cell)) none)

    all_there : (table : ℕ) → allowed_result state viewer board table ≡ live_result state board table
    unfolding allowed_result
    all_there table = by (is_scheduled state.public.movement (cell_on board table)) refl
      where
        by : (b : Bool) → is_scheduled state.public.movement (cell_on board table) ≡ b →
            cond b (allowed_at state viewer (cell_on board table)) None
            ≡ cond b (option_map (result_at (cell_on board table)) (result_of (cell_at state (cell_on board table))))
            None
        by true is =
            all_at (cell_on board table) refl
            (placed state.public.movement (cell_on board table) is_section
            (cell_in_range state.public.movement (cell_on board table) is_section
            (scheduled-cell state.public.movement (cell_on board table) is)))
        by false is = refl

    -- the results that are shown of the board are all that there are
    pub all_results : shown_results state.public.movement (shown state viewer) board ≡ live_results state board
    unfolding allowed_results live_results
    all_results =
        sym (results_shown state viewer is_section board) ∙ same (range_with_len 1 state.public.movement.tables)
      where
        same : (tables : List ℕ) → filter_map (allowed_result state viewer board) tables ≡ filter_map
            (live_result state board) tables
        same [] = refl
        same (table ∷ tables) = λ i. cons_option (all_there table i) (same tables i)
