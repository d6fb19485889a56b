-- An entry changes what is shown and counted of its own board alone.
use Rattle.std.proofs.Common.{
  ◌≡◌,
  ◌≢◌,
  ℕ,
  ◌+◌,
  ◌-◌,
  ◌<◌,
  ◌≤◌,
  Bool,
  true,
  false,
  zero,
  suc,
  List,
  nat_eq,
  refl,
  sym,
  ap,
  ◌∙◌,
  subst,
  inl,
  inr,
  arith,
  Contains,
  Any,
}
use Rattle.std.specs.Prelude.{
  Option,
  Some,
  None,
  IsSomeAnd,
  is_none,
  is_some,
  not,
  ◌&&◌,
  ◌||◌,
  if◌then◌else◌,
  slice_get,
}
use Rattle.std.specs.List.{filter_map, range_with_len, sum_by, list_any, cons_option}
use Rattle.std.specs.Option.{option_map, option_or}
use Rattle.std.proofs.lemmas.Bool.{cases_eq, ne_eqb, true≢false}
use Rattle.std.proofs.lemmas.Bool.Decides.{same_from_decides}
use Rattle.std.proofs.lemmas.List.Sums.{sum_by-cons}
use Rattle.session_roles.specs.declared.role.Role.TheVariants.{Contestant, Director, Commentator}
use Rattle.session_roles.specs.Edition.{is_second}
use Rattle.movement.specs.declared.cell.Cell.{Cell}
use Rattle.movement.specs.declared.row.Row.{Row}
use Rattle.movement.specs.Movement.{Section, IsSection, IsCell, rows, boards_of, most_boards}
use Rattle.movement.specs.Row.{Plays}
use Rattle.movement.specs.Schedule.{is_scheduled, plays}
use Rattle.movement.proofs.CellLemmas.{cell_in_range}
use Rattle.disclosure_rules.specs.declared.fact.Fact.TheVariants.{Hands}
use Rattle.disclosure_rules.specs.declared.public.Public.{Public}
use Rattle.disclosure_rules.specs.declared.rule.Rule.{Rule}
use Rattle.disclosure_rules.specs.declared.rule.Rule.TheVariants.{
  NoAccount,
  NotAMember,
  AccountsAreClosed,
  SessionIsEmbargoed,
  BoardIsHeld,
  StillToPlay,
  OthersStillPlay,
  NeitherContestantNorSpectator,
  BoardIsIncomplete,
  AnalysisWaits,
  PlayWaits,
  ReasonIsForThePairs,
  NoResult,
}
use Rattle.disclosure_rules.specs.declared.seat.Seat.{Seat}
use Rattle.disclosure_rules.specs.declared.viewer.Viewer.{Viewer}
use Rattle.disclosure_rules.specs.LiveCells.{is_live}
use Rattle.small_sets.specs.Numbers.{has_number, with_number, without_number}
use Rattle.disclosure_rules.specs.Policy.{is_authorized, guarded, forbids, first_rule, rules}
use Rattle.disclosure_rules.specs.Seating.{
  some_that,
  plays_board,
  has_still_to_play,
  is_complete,
  cell_in,
  HasStillToPlay,
  IsComplete,
}
use Rattle.small_sets.proofs.NumbersLemmas.{has_number-numbers_that}
use Rattle.disclosure_rules.proofs.SeatingTests.{still_decides, complete_decides}
use Rattle.session_state.specs.Apply.{apply, effect, part_of, confirmed}
use Rattle.session_state.specs.Parts.{Embargoes}
use Rattle.session_commands.specs.declared.cell_state.CellState.{CellState}
use Rattle.session_commands.specs.declared.cell_state.CellState.TheVariants as cell_state
use Rattle.session_commands.specs.declared.cell_state.CellState.TheVariants.{Empty}
use Rattle.session_state.specs.Refusal.{hindrance_of}
use Rattle.session_state.specs.SessionState.{SessionState, cell_at, IsPlaced, AreLive}
use Rattle.session_commands.specs.CellState.{has_result}
use Rattle.session_commands.specs.Command.{subject_cell, subject_board}
use Rattle.session_commands.specs.declared.command.Command.{Command}
use Rattle.session_commands.specs.declared.command.Command.TheVariants as command
use Rattle.session_commands.specs.declared.entry.Entry.{Entry}
use Rattle.session_commands.specs.declared.refusal.Refusal.{Refusal}
use Rattle.session_state.proofs.PartLemmas.{entry_part, entry_elsewhere}
use Rattle.standings.specs.declared.earning.Earning.{Earning}
use Rattle.session_queries.specs.Content.{result_of}
use Rattle.session_queries.specs.Facts.{cell_on, boards}
use Rattle.session_queries.specs.Reading.{result_at}
use Rattle.class_views.specs.Classes.{member_of, sees_board, without_embargo}
use Rattle.class_views.specs.declared.user_class.UserClass.{UserClass}
use Rattle.session_queries.specs.Results.{live_result, live_results}
use Rattle.class_views.specs.Totals.{earnings_with, earnings_on, counted_on, counted_for, told_board, IsSameOn}
use Rattle.class_views.proofs.ClassLemmas.{same_find}

-- ---- what an entry leaves as it is

-- whether another board is held stays
pub held_elsewhere : (held : List ℕ) (own board : ℕ) → own ≢ board → 1 ≤ board → board ≤ most_boards →
    has_number (with_number most_boards held own) board ≡ has_number held board
held_elsewhere held own board other from to =
    has_number-numbers_that most_boards (λ n. nat_eq n own || has_number held n) board from to
    ∙ ap (λ b. b || has_number held board) (ne_eqb board own (λ same. other (sym same)))

pub released_elsewhere : (held : List ℕ) (own board : ℕ) → own ≢ board → 1 ≤ board → board ≤ most_boards →
    has_number (without_number most_boards held own) board ≡ has_number held board
released_elsewhere held own board other from to =
    has_number-numbers_that most_boards (λ n. not (nat_eq n own) && has_number held n) board from to
    ∙ ap (λ b. not b && has_number held board) (ne_eqb board own (λ same. other (sym same)))

-- two boards are apart
apart : (own board : ℕ) → Some own ≢ Some board → own ≢ board
apart own board other same = other (ap Some same)

confirmed_held : (state : SessionState) (cell : Cell) (known : CellState) → (confirmed state cell known).public.held ≡
    state.public.held
confirmed_held state cell Empty = refl
confirmed_held state cell known = refl

-- a command on held boards is found to be about its own board alone
held_after : (state : SessionState) (entry : Entry) (board : ℕ) → told_board entry.command ≢ Some board → 1 ≤ board →
    board ≤ most_boards →
    has_number (apply state entry).public.held board ≡ has_number state.public.held board
held_after state entry board other from to = by_hindrance (hindrance_of state entry.command)
  where
    by_command : (c : Command) → told_board c ≢ Some board → has_number (effect state c).public.held board ≡ has_number
        state.public.held board
    by_command (command.Confirm cell outcome) not_it =
        ap (λ held. has_number held board) (confirmed_held state cell (cell_at state cell))
    by_command c not_it = search (held_elsewhere, released_elsewhere, apart)

    by_hindrance : (found : Option Refusal) → has_number (if is_some found then state else effect state
        entry.command).public.held board ≡ has_number state.public.held board
    by_hindrance (Some cause) = refl
    by_hindrance None = by_command entry.command other

-- a command about a cell is about its board
about_its_board : (c : Command) (cell : Cell) → told_board c ≢ Some cell.board → subject_cell c ≢ Some cell
about_its_board c cell other same =
    other (ap (λ o. option_or (option_map (λ (cell : Cell). cell.board) o) (subject_board c)) same)

-- what an entry leaves of a board that it isn't about
pub same_elsewhere : (state : SessionState) (entry : Entry) (board : ℕ) → IsSection state.public.movement →
    told_board entry.command ≢ Some board → 1 ≤ board → board ≤ most_boards →
    AreLive state.public.live state.cells → AreLive (apply state entry).public.live (apply state entry).cells →
    IsSameOn state (apply state entry) board
same_elsewhere state entry board is_section other from to live live_after =
    let part = entry_part state entry in
    record {
      movement = part.movement;
      marks = part.marks;
      edition = part.edition;
      held = held_after state entry board other from to;
      live = λ table low high.
          live_after (cell_on board table) (there table low high)
          ∙ (ap has_result (known table low high) ∙ sym (live (cell_on board table) (there table low high)));
      results = λ table low high. ap result_of (known table low high);
    }
  where
    there : (table : ℕ) → 1 ≤ table → table ≤ 16 → IsPlaced (cell_on board table)
    there table low high = record { from_table = low; to_table = high; from_board = from; to_board = to }

    known : (table : ℕ) → 1 ≤ table → table ≤ 16 → cell_at (apply state entry) (cell_on board table) ≡ cell_at state
        (cell_on board table)
    known table low high = entry_elsewhere state entry (cell_on board table) is_section (there table low high)
        (about_its_board entry.command (cell_on board table) other)

-- a command about a cell holds no board and releases none
held_at_cell : (state : SessionState) (entry : Entry) (cell : Cell) → subject_cell entry.command ≡ Some cell →
    (apply state entry).public.held ≡ state.public.held
held_at_cell state entry cell about = by_hindrance (hindrance_of state entry.command)
  where
    by_command : (c : Command) → subject_cell c ≡ Some cell → (effect state c).public.held ≡ state.public.held
    by_command (command.Confirm own outcome) it = confirmed_held state own (cell_at state own)
    by_command c it = search

    by_hindrance : (found : Option Refusal) → (if is_some found then state else effect state
        entry.command).public.held ≡ state.public.held
    by_hindrance (Some cause) = refl
    by_hindrance None = by_command entry.command about

-- where there is no result, none is read
no_result : (known : CellState) → has_result known ≡ false → result_of known ≡ None
no_result Empty none = refl
no_result (cell_state.Entered outcome play) none = refl
no_result (cell_state.Confirmed outcome play costs) some = absurd (true≢false some)
no_result (cell_state.Ruled north_south east_west reason) some = absurd (true≢false some)

-- what an entry leaves of the board of a cell that has no result before it and none after it
pub same_uncounted : (state : SessionState) (entry : Entry) (cell : Cell) → IsSection state.public.movement →
    subject_cell entry.command ≡ Some cell → 1 ≤ cell.board → cell.board ≤ most_boards →
    AreLive state.public.live state.cells → AreLive (apply state entry).public.live (apply state entry).cells →
    is_live state.public.live cell ≡ false → is_live (apply state entry).public.live cell ≡ false →
    IsSameOn state (apply state entry) cell.board
same_uncounted state entry cell is_section about from to live live_after without without_after =
    let part = entry_part state entry in
    record {
      movement = part.movement;
      marks = part.marks;
      edition = part.edition;
      held = ap (λ held. has_number held cell.board) (held_at_cell state entry cell about);
      live = λ table low high.
          elim (cases_eq table cell.table) [
            | inl here ↦
                subst (λ t. is_live (apply state entry).public.live (cell_on cell.board t) ≡ is_live state.public.live
                (cell_on cell.board t)) (sym here)
                (without_after ∙ sym without)
            | inr other ↦
                live_after (cell_on cell.board table) (there table low high)
                ∙ (ap has_result (known table low high other) ∙ sym (live (cell_on cell.board table)
                (there table low high)))
          ];
      results = λ table low high.
          elim (cases_eq table cell.table) [
            | inl here ↦
                no_result _ (sym (live_after (cell_on cell.board table) (there table low high))
                ∙ subst (λ t. is_live (apply state entry).public.live (cell_on cell.board t) ≡ false) (sym here)
                without_after)
                ∙ sym (no_result _ (sym (live (cell_on cell.board table) (there table low high))
                ∙ subst (λ t. is_live state.public.live (cell_on cell.board t) ≡ false) (sym here) without))
            | inr other ↦ ap result_of (known table low high other)
          ];
    }
  where
    there : (table : ℕ) → 1 ≤ table → table ≤ 16 → IsPlaced (cell_on cell.board table)
    there table low high = record { from_table = low; to_table = high; from_board = from; to_board = to }

    one_cell : (a b : Cell) → Some a ≡ Some b → a ≡ b
    one_cell a b same = cc

    known : (table : ℕ) → 1 ≤ table → table ≤ 16 → table ≢ cell.table → cell_at (apply state entry)
        (cell_on cell.board table) ≡ cell_at state (cell_on cell.board table)
    known table low high other = entry_elsewhere state entry (cell_on cell.board table) is_section (there table low high)
        (λ it. other (ap (λ (c : Cell). c.table) (one_cell (cell_on cell.board table) cell (sym it ∙ about))))

-- ---- what is the same on such a board

-- the public facts, with an embargo or without one
abbrev with_embargo : Bool → Public → Public
with_embargo embargo public = record public { embargo = embargo }

module _ (before after : SessionState) (board : ℕ) (same : IsSameOn before after board)
    (is_section : IsSection before.public.movement) where
  -- the tables of a row are among those that there are
  row_live : (row : Row) → Contains (rows before.public.movement) row → is_live after.public.live (cell_in row board) ≡
      is_live before.public.live (cell_in row board)
  row_live row listed =
      let there = is_section.in_range row listed in
      same.live row.table there.from_table (omega (arith, there.to_table, is_section.not_too_many_tables))

  same_plays : (viewer : Viewer) → plays_board after.public viewer board ≡ plays_board before.public viewer board
  unfolding plays_board
  same_plays viewer = ap (λ (section : Section). some_that viewer.seat (λ seat. list_any (plays section seat.pair board)
      (rows section))) same.movement

  same_still : (viewer : Viewer) → has_still_to_play after.public viewer board ≡ has_still_to_play before.public viewer
      board
  same_still viewer =
      same_from_decides {P = HasStillToPlay before.public viewer board} _ _ (
        λ test. forth viewer.seat ((still_decides after.public viewer board).0 test),
        λ still. (still_decides after.public viewer board).1 (back viewer.seat still),
      )
      (still_decides before.public viewer board)
    where
      Still : Section → List (List ℕ) → Option Seat → Type 0
      Still section live s =
          IsSomeAnd s (λ seat. Any (λ row. Plays section row seat.pair board ×
          (is_live live (cell_in row board) ≡ false)) (rows section))

      forth : (s : Option Seat) → Still after.public.movement after.public.live s → Still before.public.movement
          before.public.live s
      forth s still = with_live s (subst (λ section. Still section after.public.live s) same.movement still)
        where
          with_live : (s : Option Seat) → Still before.public.movement after.public.live s →
              Still before.public.movement before.public.live s
          with_live None none = none
          with_live (Some seat) (k, row, below, here, both) =
              (k, row, below, here, (both.0, sym (row_live row (k, below, here)) ∙ both.1))

      back : (s : Option Seat) → Still before.public.movement before.public.live s → Still after.public.movement
          after.public.live s
      back s still = subst (λ section. Still section after.public.live s) (sym same.movement) (with_live s still)
        where
          with_live : (s : Option Seat) → Still before.public.movement before.public.live s →
              Still before.public.movement after.public.live s
          with_live None none = none
          with_live (Some seat) (k, row, below, here, both) =
              (k, row, below, here, (both.0, row_live row (k, below, here) ∙ both.1))

  same_complete : is_complete after.public board ≡ is_complete before.public board
  same_complete =
      same_from_decides {P = IsComplete before.public board} _ _ (
        λ test cell is_cell own.
            sym (cell_live cell is_cell own) ∙ (complete_decides after.public board).0 test cell
            (subst (λ (section : Section). IsCell section cell) (sym same.movement) is_cell) own,
        λ complete. (complete_decides after.public board).1 (λ cell is_cell own.
            let is_cell_before = subst (λ (section : Section). IsCell section cell) same.movement is_cell in
            cell_live cell is_cell_before own ∙ complete cell is_cell_before own),
      )
      (complete_decides before.public board)
    where
      cell_live : (cell : Cell) → IsCell before.public.movement cell → cell.board ≡ board → is_live after.public.live
          cell ≡ is_live before.public.live cell
      cell_live cell is_cell own =
          let there = cell_in_range before.public.movement cell is_section is_cell in
          subst (λ b. is_live after.public.live (record { table = cell.table; board = b }) ≡ is_live before.public.live
          (record { table = cell.table; board = b })) (sym own)
          (same.live cell.table there.from_table (omega (arith, there.to_table, is_section.not_too_many_tables)))

  -- the policy says the same of its hands, where there is an embargo before and after or neither before nor after
  same_sees_under : (was is : Bool) → is ≡ was → (viewer : Viewer) → sees_board (with_embargo is after.public) viewer
      board ≡ sees_board (with_embargo was before.public) viewer board
  unfolding first_rule has_still_to_play plays_board is_complete
  same_sees_under was is so viewer = ap is_none (same_find _ _ rules each)
    where
      both : (test other : ℕ → Bool) → test board ≡ other board → some_that (guarded viewer (Some board)) test ≡
          some_that (guarded viewer (Some board)) other
      both test other agree = by (is_authorized viewer.roles Director)
        where
          by : (b : Bool) → some_that (if b then None else Some board) test ≡ some_that (if b then None else Some board)
              other
          by true = refl
          by false = agree

      no_cell : (test other : Cell → Bool) → some_that (guarded {A = Cell} viewer None) test ≡ some_that
          (guarded {A = Cell} viewer None) other
      no_cell test other = by (is_authorized viewer.roles Director)
        where
          the_none : Option Cell
          the_none = None

          by : (b : Bool) → some_that (if b then the_none else the_none) test ≡ some_that
              (if b then the_none else the_none) other
          by true = refl
          by false = refl

      each : (rule : Rule) → forbids rule (with_embargo is after.public) viewer (Hands board) ≡ forbids rule
          (with_embargo was before.public) viewer (Hands board)
      each NoAccount = refl
      each NotAMember = refl
      each AccountsAreClosed = refl
      each SessionIsEmbargoed = both _ _ (λ i. is_second (same.edition i) && so i)
      each BoardIsHeld = both _ _ same.held
      each StillToPlay = both _ _ (ap (λ b. is_authorized viewer.roles Contestant && b) (same_still viewer))
      each OthersStillPlay = both _ _ (λ i. is_authorized viewer.roles Contestant &&
          (not (same_plays viewer i) && not (same_complete i)))
      each NeitherContestantNorSpectator = both _ _ refl
      each BoardIsIncomplete = both _ _ (λ i. not (is_authorized viewer.roles Contestant) &&
          (not (is_second (same.edition i) && is_authorized viewer.roles Commentator) && not (same_complete i)))
      each AnalysisWaits = both _ _ refl
      each PlayWaits = no_cell _ _
      each ReasonIsForThePairs = no_cell _ _
      each NoResult = no_cell _ _

  -- so without an embargo it does
  pub same_sees : (viewer : Viewer) → sees_board (without_embargo after.public) viewer board ≡ sees_board
      (without_embargo before.public) viewer board
  same_sees = same_sees_under false false refl

  -- and its results count the same
  same_result : (table : ℕ) → 1 ≤ table → table ≤ 16 → live_result after board table ≡ live_result before board table
  same_result table from to =
      λ i. if is_scheduled (same.movement i) (cell_on board table) then option_map (result_at (cell_on board table))
      (same.results table from to i) else None

  same_results : (first n : ℕ) → 1 ≤ first → first + n ≤ 17 → filter_map (live_result after board)
      (range_with_len first n) ≡ filter_map (live_result before board) (range_with_len first n)
  same_results first zero from to = refl
  same_results first (suc n) from to =
      λ i. cons_option (same_result first from (omega (arith, to)) i) (same_results (first + 1) n (omega (arith, from))
      (omega (arith, to)) i)

  pub same_earnings : earnings_on after board ≡ earnings_on before board
  unfolding earnings_on live_results
  same_earnings =
      let tables = is_section.not_too_many_tables in
      (λ i. earnings_with (same.movement i) (slice_get (same.marks i) (board - 1)) (filter_map (live_result after board)
      (range_with_len 1 (same.movement i).tables)))
      ∙ ap (earnings_with before.public.movement (slice_get before.public.marks (board - 1)))
      (same_results 1 before.public.movement.tables (omega arith) (omega (arith, tables)))

  pub same_counted : after.public.embargo ≡ before.public.embargo → (count : Earning → ℕ) (class : Option UserClass) →
      counted_on count after class board ≡ counted_on count before class board
  same_counted so count None = refl
  same_counted so count (Some class) =
      λ i. if same_sees_under before.public.embargo after.public.embargo so (member_of class) i
      then sum_by count (same_earnings i) else 0

-- ---- what all boards count

-- where two ways to count are the same on each board, so are their sums
pub sum_same : (f g : ℕ → ℕ) (first n : ℕ) → ((m : ℕ) → first ≤ m → m < first + n → g m ≡ f m) →
    sum_by g (range_with_len first n) ≡ sum_by f (range_with_len first n)
sum_same f g first zero each = refl
sum_same f g first (suc n) each =
    sum_by-cons g first (range_with_len (first + 1) n)
    ∙ ((λ i. each first (omega arith) (omega arith) i + sum_same f g (first + 1) n
    (λ m low high. each m (omega (arith, low)) (omega (arith, high))) i)
    ∙ sym (sum_by-cons f first (range_with_len (first + 1) n)))

-- where two ways to count differ on one board alone, so do their sums
pub sum_changed : (f g : ℕ → ℕ) (first n board : ℕ) → first ≤ board → board < first + n →
    ((m : ℕ) → m ≢ board → first ≤ m → m < first + n → g m ≡ f m) →
    sum_by g (range_with_len first n) + f board ≡ sum_by f (range_with_len first n) + g board
sum_changed f g first zero board from to same = absurd (omega (arith, from, to))
sum_changed f g first (suc n) board from to same =
    elim (cases_eq first board) [
      | inl here ↦
          let rest : sum_by g (range_with_len (first + 1) n) ≡ sum_by f (range_with_len (first + 1) n) =
          sum_same f g (first + 1) n (λ m low high. same m (λ is. absurd (omega (arith, is, here, low)))
          (omega (arith, low)) (omega (arith, high))) in
          let own : f first ≡ f board = ap f here in
          let own_after : g first ≡ g board = ap g here in
          omega (
            arith,
            rest,
            own,
            own_after,
            sum_by-cons g first (range_with_len (first + 1) n),
            sum_by-cons f first
                (range_with_len (first + 1) n),
          )
      | inr later ↦
          let rest = sum_changed f g (first + 1) n board (omega (arith, from, later)) (omega (arith, to))
          (λ m other low high. same m other (omega (arith, low)) (omega (arith, high))) in
          let own : g first ≡ f first = same first later (omega arith) (omega arith) in
          omega (
            arith,
            rest,
            own,
            sum_by-cons g first (range_with_len (first + 1) n),
            sum_by-cons f first
                (range_with_len (first + 1) n),
          )
    ]

-- there is no board where there is none
no_board : (board : ℕ) → None ≢ Some board
no_board board same = absurd cc

-- a command on the embargo is about no board
embargo_of_all : (c : Command) → part_of c ≡ Embargoes → told_board c ≡ None
embargo_of_all command.Embargo is = refl
embargo_of_all c is = search

-- so a command about a board is on no embargo
about_no_embargo : (c : Command) (board : ℕ) → told_board c ≡ Some board → part_of c ≢ Embargoes
about_no_embargo c board about is = no_board board (sym (embargo_of_all c is) ∙ about)

-- an entry changes what all boards count by what its own board counts
pub counted_after : (count : Earning → ℕ) (state : SessionState) (entry : Entry) (class : Option UserClass)
    (board : ℕ) → IsSection state.public.movement →
    AreLive state.public.live state.cells → AreLive (apply state entry).public.live (apply state entry).cells →
    1 ≤ board → board ≤ boards_of state.public.movement → told_board entry.command ≡ Some board →
    counted_for count (apply state entry) class + counted_on count state class board ≡ counted_for count state class +
    counted_on count (apply state entry) class board
unfolding counted_for
counted_after count state entry class board is_section live live_after from to about =
    let boards_same = entry_part state entry in
    ap (λ (section : Section). sum_by (counted_on count (apply state entry) class) (boards section) + counted_on count
    state class board) boards_same.movement
    ∙ sum_changed (counted_on count state class) (counted_on count (apply state entry) class) 1
    (boards_of state.public.movement) board from (omega (arith, to))
    (λ m other low high.
    same_counted state (apply state entry) m
    (same_elsewhere state entry m is_section (λ it. other (some_injective (sym it ∙ about))) low
    (omega (arith, high, is_section.not_too_many_boards)) live live_after) is_section
    (boards_same.embargo (about_no_embargo entry.command board about)) count class)
  where
    some_injective : {m n : ℕ} → Some m ≡ Some n → m ≡ n
    some_injective same = cc
