-- Where a rule waits for results, the table that is named is one from which a result is awaited.
use Rattle.std.proofs.Common.{◌≡◌, ℕ, ◌-◌, Bool, true, false, List, get_or, refl, sym, ap, ◌∙◌, subst, arith, Any}
use Rattle.std.specs.Prelude.{Option, Some, None, not, ◌&&◌, if◌then◌else◌, IsSomeAnd}
use Rattle.std.specs.List.{find, range_with_len}
use Rattle.std.specs.Option.{option_map, unwrap_or}
use Rattle.std.proofs.lemmas.Bool.{false≢true, and_from, and_parts, not-true, not_from_false, both_ways}
use Rattle.std.proofs.lemmas.List.FromFn.{get_or-range_with_len, length-range_with_len}
use Rattle.movement.specs.Movement.{IsSection, rows, HasCell}
use Rattle.movement.specs.Row.{Seats, Plays}
use Rattle.movement.specs.Schedule.{is_scheduled}
use Rattle.movement.proofs.CellLemmas.{cell_in_range}
use Rattle.movement.proofs.ScheduleTests.{cell-scheduled}
use Rattle.session_roles.specs.declared.role.Role.TheVariants.{Director}
use Rattle.disclosure_rules.specs.declared.fact.Fact.{Fact}
use Rattle.disclosure_rules.specs.declared.public.Public.{Public}
use Rattle.disclosure_rules.specs.declared.rule.Rule.{Rule}
use Rattle.disclosure_rules.specs.declared.rule.Rule.TheVariants.{
  NoAccount,
  NotAMember,
  AccountsAreClosed,
  SessionIsEmbargoed,
  BoardIsHeld,
  StillToPlay,
  OthersStillPlay,
  NeitherContestantNorSpectator,
  BoardIsIncomplete,
  AnalysisWaits,
  PlayWaits,
  ReasonIsForThePairs,
  NoResult,
}
use Rattle.disclosure_rules.specs.declared.seat.Seat.{Seat}
use Rattle.disclosure_rules.specs.declared.viewer.Viewer.{Viewer}
use Rattle.disclosure_rules.specs.Fact.{board_of_fact}
use Rattle.disclosure_rules.specs.LiveCells.{is_live}
use Rattle.disclosure_rules.specs.Policy.{is_authorized, guarding, forbids, first_rule}
use Rattle.disclosure_rules.specs.Seating.{some_that, cell_in, is_complete, IsComplete, has_still_to_play, IsSeatedAt}
use Rattle.disclosure_rules.proofs.FirstLemmas.{IsFound, found_at, none_found, first_forbids}
use Rattle.disclosure_rules.proofs.SeatingTests.{complete_decides, still_decides}
use Rattle.denials.specs.declared.denial.Denial.{Denial}
use Rattle.denials.specs.Evidence.{
  own_table,
  table_of_pair,
  is_awaited,
  awaited_table,
  denied_board,
  board_named,
  table_named,
  waits_for_results,
  denial_by,
  denial_of,
}
use Rattle.denials.proofs.TableLemmas.{table_of_own_cell}

-- a guarded fact belongs to a board that passes the test
record Guarded (fact : Fact) (test : ℕ → Bool) : Type 0 where
  board : ℕ
  is : board_of_fact fact ≡ Some board
  passes : test board ≡ true

guarded_by : (viewer : Viewer) (fact : Fact) (test : ℕ → Bool) → guarding viewer fact test ≡ true → Guarded fact test
guarded_by viewer fact test forbidden = at (is_authorized viewer.roles Director) (board_of_fact fact) refl forbidden
  where
    at : (director : Bool) (o : Option ℕ) → board_of_fact fact ≡ o → some_that (if director then None else o) test ≡
        true → Guarded fact test
    at true o is none = absurd (false≢true none)
    at false None is none = absurd (false≢true none)
    at false (Some board) is passes = record { board = board; is = is; passes = passes }

not_false : (b : Bool) → not b ≡ false → b ≡ true
not_false true is = refl
not_false false is = absurd (false≢true (sym is))

-- on an incomplete board a result is awaited from the table that is named
awaited_there : (public : Public) (board : ℕ) → IsSection public.movement → is_complete public board ≡ false →
    is_awaited public.movement public.live board (awaited_table public.movement public.live board) ≡ true
unfolding awaited_table
awaited_there public board is_section incomplete = at (find test tables) refl
  where
    test : ℕ → Bool
    test = is_awaited public.movement public.live board

    tables : List ℕ
    tables = range_with_len 1 public.movement.tables

    complete : find test tables ≡ None → IsComplete public board
    complete none cell is_cell at_board =
        let range = cell_in_range public.movement cell is_section is_cell in
        let k : ℕ = cell.table - 1 in
        let place : get_or tables k 0 ≡ cell.table = get_or-range_with_len 1 public.movement.tables k 0
        (omega (arith, range.from_table, range.to_table)) ∙ omega (arith, range.from_table) in
        let fails : test cell.table ≡ false = ap test (sym place) ∙ none_found test tables 0 none k
        (omega (arith, range.from_table, range.to_table, length-range_with_len 1 public.movement.tables)) in
        let same : cell ≡ record { table = cell.table; board = board } = λ i. record {
          table = cell.table;
          board =
              at_board i;
        } in
        let scheduled : is_scheduled public.movement (record { table = cell.table; board = board }) ≡ true =
        ap (is_scheduled public.movement) (sym same) ∙ cell-scheduled public.movement cell is_cell in
        ap (is_live public.live) same
        ∙ not_false _ (sym (ap (λ b. b && not (is_live public.live (record { table = cell.table; board = board })))
        scheduled) ∙ fails)

    at : (o : Option ℕ) → find test tables ≡ o → test (unwrap_or o 0) ≡ true
    at None none = absurd (both_ways _ incomplete ((complete_decides public board).1 (complete none)))
    at (Some table) found = let first : IsFound test tables 0 table = found_at test tables 0 table found in first.passes

-- a user who has still to play a board is seated at the own table, and its result is awaited
record IsOwn (public : Public) (viewer : Viewer) (board table : ℕ) : Type 0 where
  awaited : is_awaited public.movement public.live board table ≡ true
  seated : IsSeatedAt public viewer (record { table = table; board = board })

own_there : (public : Public) (viewer : Viewer) (board : ℕ) → IsSection public.movement → has_still_to_play public
    viewer board ≡ true →
    IsOwn public viewer board (own_table public.movement viewer.seat board)
own_there public viewer board is_section still =
    let both = at viewer.seat ((still_decides public viewer board).0 still) in
    record { awaited = both.0; seated = both.1 }
  where
    at : (seat : Option Seat) → IsSomeAnd seat
        (λ s. Any (λ row. Plays public.movement row s.pair board × (is_live public.live (cell_in row board) ≡ false))
        (rows public.movement)) →
        (is_awaited public.movement public.live board (own_table public.movement seat board) ≡ true)
        × IsSomeAnd seat
        (λ s. Any (λ row. Seats row s.pair × HasCell public.movement row
        (record { table = own_table public.movement seat board; board = board })) (rows public.movement))
    at None none = absurd none
    at (Some s) (k, row, below, here, (plays, no_result)) =
        let has : HasCell public.movement row (cell_in row board) = record { table = refl; board = plays.board } in
        let table : row.table ≡ table_of_pair public.movement s.pair board =
        table_of_own_cell public.movement s.pair board (cell_in row board) is_section refl
        (k, row, below, here, (plays.seated, has)) in (
          subst (λ t. is_awaited public.movement public.live board t ≡ true) table
              (and_from _ _ (cell-scheduled public.movement (cell_in row board) (k, row, below, here, has))
              (not_from_false _ no_result)),
          subst (λ t. Any (λ r. Seats r s.pair × HasCell public.movement r (record { table = t; board = board }))
              (rows public.movement)) table
              (k, row, below, here, (plays.seated, has)),
        )

module _ (public : Public) (viewer : Viewer) (fact : Fact) where
  -- what is incomplete is awaited, at the board that is named
  at_board : IsSection public.movement → (test : ℕ → Bool) →
      ((b : ℕ) → test b ≡ true → is_complete public b ≡ false) → guarding viewer fact test ≡ true →
      is_awaited public.movement public.live (denied_board fact) (awaited_table public.movement public.live
      (denied_board fact)) ≡ true
  at_board is_section test gives forbidden =
      let secret : Guarded fact test = guarded_by viewer fact test forbidden in
      let number : secret.board ≡ denied_board fact = sym (ap (λ o. unwrap_or o 0) secret.is) in
      awaited_there public (denied_board fact) is_section (subst (λ b. is_complete public b ≡ false) number
      (gives secret.board secret.passes))

  -- what is still to play is awaited from the own table
  at_own : IsSection public.movement → forbids StillToPlay public viewer fact ≡ true →
      IsOwn public viewer (denied_board fact) (own_table public.movement viewer.seat (denied_board fact))
  at_own is_section forbidden =
      let secret = guarded_by viewer fact _ forbidden in
      let number : secret.board ≡ denied_board fact = sym (ap (λ o. unwrap_or o 0) secret.is) in
      let still = (and_parts _ _ secret.passes).1 in
      own_there public viewer (denied_board fact) is_section (subst (λ b. has_still_to_play public viewer b ≡ true)
      number still)

  -- the table that a rule names is awaited, where the rule waits for results
  named : IsSection public.movement → (rule : Rule) → forbids rule public viewer fact ≡ true → waits_for_results rule ≡
      true →
      is_awaited public.movement public.live (board_named rule fact) (table_named rule public viewer.seat fact) ≡ true
  named is_section NoAccount forbidden waits = absurd (false≢true waits)
  named is_section NotAMember forbidden waits = absurd (false≢true waits)
  named is_section AccountsAreClosed forbidden waits = absurd (false≢true waits)
  named is_section SessionIsEmbargoed forbidden waits = absurd (false≢true waits)
  named is_section BoardIsHeld forbidden waits = absurd (false≢true waits)
  named is_section StillToPlay forbidden waits = let own = at_own is_section forbidden in own.awaited
  named is_section OthersStillPlay forbidden waits =
      at_board is_section _ (λ b test. not-true _ (and_parts _ _ (and_parts _ _ test).1).1) forbidden
  named is_section NeitherContestantNorSpectator forbidden waits = absurd (false≢true waits)
  named is_section BoardIsIncomplete forbidden waits =
      at_board is_section _ (λ b test. not-true _ (and_parts _ _ (and_parts _ _ test).1).1) forbidden
  named is_section AnalysisWaits forbidden waits =
      at_board is_section _ (λ b test. not-true _ (and_parts _ _ (and_parts _ _ test).1).1) forbidden
  named is_section PlayWaits forbidden waits = absurd (false≢true waits)
  named is_section ReasonIsForThePairs forbidden waits = absurd (false≢true waits)
  named is_section NoResult forbidden waits = absurd (false≢true waits)

  -- a denial is by the first rule
  record IsBy (denial : Denial) : Type 0 where
    rule : Rule
    first : first_rule public viewer fact ≡ Some rule
    is : denial_by public viewer.seat fact rule ≡ denial

  by_rule : (denial : Denial) → denial_of public viewer fact ≡ Some denial → IsBy denial
  unfolding denial_of
  by_rule denial denied = at (first_rule public viewer fact) refl denied
    where
      at : (o : Option Rule) → first_rule public viewer fact ≡ o → option_map (denial_by public viewer.seat fact) o ≡
          Some denial → IsBy denial
      at None first none = absurd (cc)
      at (Some rule) first same = record { rule = rule; first = first; is = ap (λ o. unwrap_or o denial) same }

  pub denial_awaited : (denial : Denial) → IsSection public.movement → denial_of public viewer fact ≡ Some denial →
      waits_for_results denial.rule ≡ true → is_awaited public.movement public.live denial.board denial.table ≡ true
  denial_awaited denial is_section denied waits =
      let by : IsBy denial = by_rule denial denied in
      subst (λ (d : Denial). is_awaited public.movement public.live d.board d.table ≡ true) by.is
      (named is_section by.rule (first_forbids public viewer fact by.rule by.first)
      (ap (λ (d : Denial). waits_for_results d.rule) by.is ∙ waits))

  pub denial_own : (denial : Denial) → IsSection public.movement → denial_of public viewer fact ≡ Some denial →
      denial.rule ≡ StillToPlay → IsSeatedAt public viewer (record { table = denial.table; board = denial.board })
  denial_own denial is_section denied still =
      let by : IsBy denial = by_rule denial denied in
      let rule : by.rule ≡ StillToPlay = ap (λ (d : Denial). d.rule) by.is ∙ still in
      let forbidden : forbids StillToPlay public viewer fact ≡ true = subst (λ r. forbids r public viewer fact ≡ true)
      rule (first_forbids public viewer fact by.rule by.first) in
      let own = at_own is_section forbidden in
      subst (λ (d : Denial). IsSeatedAt public viewer (record { table = d.table; board = d.board }))
      (ap (denial_by public viewer.seat fact) (sym rule) ∙ by.is) own.seated
