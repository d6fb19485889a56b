-- What a session comes to at a version, as a director sees it: the facts that every written report tells. Each number is
-- that of the definition by which replies have it.
use Rattle.std.specs.Prelude.{◌≡◌, ◌+◌, ℕ, ◌-◌, List, [], ◌∷◌, Option, Some, None, slice_get}
use Rattle.std.specs.List.{filter_map, flat_map}
use Rattle.cards.specs.Hands.{Hands, IsDeal}
use Rattle.movement.specs.Movement.{Section}
use Rattle.disclosure_rules.specs.declared.marks.Marks.{Marks}
use Rattle.scoring.specs.declared.standing.Standing.{Standing}
use Rattle.session_state.specs.SessionState.{SessionState}
use Rattle.session_queries.specs.Content.{analysis_of}
use Rattle.session_queries.specs.Facts.{boards}
use Rattle.session_queries.specs.Results.{live_results}
use Rattle.standings.specs.declared.earning.Earning.{Earning}
use Rattle.standings.specs.declared.table_result.TableResult.{TableResult}
use Rattle.standings.specs.declared.traveller_row.TravellerRow.{TravellerRow}
use Rattle.standings.specs.Ranking.{earnings_of, ranking_of}
use Rattle.standings.specs.Traveller.{traveller_rows}
use Rattle.table_terms.specs.declared.vulnerability.Vulnerability.{Vulnerability}
use Rattle.session_report.specs.declared.board_report.BoardReport.{BoardReport}
use Rattle.session_report.specs.declared.membership.Membership.{Membership}
use Rattle.session_report.specs.declared.report.Report.{Report}
use Rattle.session_report.specs.declared.result_row.ResultRow.{ResultRow}
use Rattle.session_report.specs.Players.{players_of}

-- ---- the ranking

-- what the results of a board earn, where it is marked
abbrev pub earnings_marked : SessionState → ℕ → Option Marks → List Earning
earnings_marked state board None = []
earnings_marked state board (Some marks) =
    earnings_of state.public.movement marks.vulnerability (live_results state board)

abbrev pub results_earn : SessionState → ℕ → List Earning
results_earn state board = earnings_marked state board (slice_get state.public.marks (board - 1))

-- what all results of all boards earn
unfoldable pub session_earnings : SessionState → List Earning
session_earnings state = flat_map (results_earn state) (boards state.public.movement)

-- the pairs in the order in which they rank
abbrev pub session_ranking : SessionState → List Standing
session_ranking state = ranking_of state.public.movement (session_earnings state)

-- ---- the boards

-- each row beside what its result earns
abbrev pub with_earnings : ℕ → List TravellerRow → List Earning → List ResultRow
with_earnings board [] earnings = []
with_earnings board (row ∷ rows) [] = []
with_earnings board (row ∷ rows) (earning ∷ earnings) =
    record { board = board; row = row; earning = earning } ∷ with_earnings board rows earnings

-- the results on a board, table by table, each with its row of the traveller and what it earns
abbrev pub result_rows : Section → ℕ → Vulnerability → List TableResult → List ResultRow
result_rows section board vulnerability results =
    with_earnings board (traveller_rows section vulnerability results) (earnings_of section vulnerability results)

-- a board that is dealt and marked
abbrev pub board_marked : SessionState → ℕ → Option Hands → Option Marks → Option BoardReport
board_marked state board None marks = None
board_marked state board (Some hands) None = None
board_marked state board (Some hands) (Some marks) = Some (record {
  number = board;
  deal = hands;
  marks = marks;
  tricks = analysis_of state board;
  rows = result_rows state.public.movement board marks.vulnerability (live_results state board);
})

abbrev pub reported_board : SessionState → ℕ → Option BoardReport
reported_board state board =
    board_marked state board (slice_get state.deals (board - 1)) (slice_get state.public.marks (board - 1))

-- the boards of the section: each is dealt and marked
unfoldable pub reported_boards : SessionState → List BoardReport
reported_boards state = filter_map (reported_board state) (boards state.public.movement)

-- boards with the numbers from one on, each of which is a deal
abbrev pub AreReported : ℕ → List BoardReport → Type 0
AreReported number [] = Unit {0}
AreReported number (board ∷ boards) = (board.number ≡ number) × IsDeal board.deal × AreReported (number + 1) boards

-- ---- the session

-- what a session comes to that has taken so many entries, beside the members' numbers that are known
abbrev pub report_of : SessionState → List Membership → ℕ → Report
report_of state memberships version = record {
  title = state.notices.title;
  date = state.notices.date;
  phase = state.public.phase;
  version = version;
  players = players_of state memberships;
  ranking = session_ranking state;
  boards = reported_boards state;
}
