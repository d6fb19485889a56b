-- The answers to queries. Each is read from what the user is shown of a state, and from nothing else.
use Rattle.std.specs.Prelude.{ℕ, nat_lt, Option, Some, None, option_map, List, [], length, take}
use Rattle.std.specs.List.{flat_map}
use Rattle.cards.specs.Hands.{Hands}
use Rattle.movement.specs.Movement.{Section}
use Rattle.disclosure_rules.specs.declared.marks.Marks.{Marks}
use Rattle.disclosure_rules.specs.declared.public.Public.{Public}
use Rattle.query_filter.specs.Formula.{Formula}
use Rattle.query_filter.specs.declared.trick_table.TrickTable.{TrickTable}
use Rattle.rbac.specs.declared.account.Account.{Account}
use Rattle.rbac.specs.declared.inheritance.Inheritance.{Inheritance}
use Rattle.disclosure_rules.specs.declared.fact.Fact.TheVariants as fact
use Rattle.session_queries.specs.Content.{Content, says_public}
use Rattle.session_queries.specs.Facts.{boards}
use Rattle.session_queries.specs.Par.{marked_par}
use Rattle.session_queries.specs.Reading.{
  shown_public,
  shown_accounts,
  shown_pairs,
  shown_hands,
  shown_marks,
}
use Rattle.session_queries.specs.Reading.{shown_analysis, shown_play, shown_costs, shown_reason, shown_results}
use Rattle.session_queries.specs.Shown.{Shown, content_shown}
use Rattle.session_queries.specs.declared.query.Query.{Query}
use Rattle.session_queries.specs.declared.query.Query.TheVariants as query
use Rattle.session_queries.specs.declared.body.Body.{Body}
use Rattle.session_queries.specs.declared.body.Body.TheVariants as body
use Rattle.standings.specs.declared.earning.Earning.{Earning}
use Rattle.standings.specs.Traveller.{traveller_rows}
use Rattle.published_view.specs.Listing.{listed_from}
use Rattle.standings.specs.Ranking.{earnings_of, ranking_of}

-- what the public fact says, where it is shown
abbrev pub status_by : Option Content → Body
status_by (Some (says_public public seats names notices)) = body.Status public seats names notices
status_by _ = body.NoSuchBoard

-- a board with its marks, where both are shown; what isn't shown can't be told from what isn't there
abbrev pub board_by : ℕ → Option Hands → Option Marks → Body
board_by board None marks = body.NoSuchBoard
board_by board (Some hands) None = body.NoSuchBoard
board_by board (Some hands) (Some marks) = body.Board board hands marks

-- a traveller, where what every member may see, and with it the board's marks, is shown
abbrev pub traveller_by : List Shown → ℕ → Option Public → Option Marks → Body
traveller_by items board None marks = body.NoSuchBoard
traveller_by items board (Some public) None = body.NoSuchBoard
traveller_by items board (Some public) (Some marks) =
    body.Traveller board
    (traveller_rows public.movement marks.vulnerability (shown_results public.movement items board))

-- an analysis, where it is shown
abbrev pub analysis_by : ℕ → Option (Option TrickTable) → Body
analysis_by board None = body.NoSuchBoard
analysis_by board (Some tricks) = body.Analysis board tricks

-- a par, where the analysis is shown, and with what every member may see the board's marks: still to come as long as the
-- analysis is
abbrev pub par_by : ℕ → Option (Option TrickTable) → Option Marks → Body
par_by board None marks = body.NoSuchBoard
par_by board (Some tricks) None = body.NoSuchBoard
par_by board (Some tricks) (Some marks) = body.Par board (option_map (marked_par marks) tricks)

-- the boards from one on that are listed, at most so many, and whether more follow
abbrev pub list_by : List Shown → Option Formula → ℕ → ℕ → Option Public → Body
list_by items formula from limit None = body.NoSuchBoard
list_by items formula from limit (Some public) =
    let listed = listed_from public.movement items formula from in
    body.List (take limit listed) (nat_lt limit (length listed))

-- what the results of a board earn, where its hands and its marks are shown
abbrev pub earnings_by : Section → List Shown → ℕ → Option Hands → Option Marks → List Earning
earnings_by section items board None marks = []
earnings_by section items board (Some hands) None = []
earnings_by section items board (Some hands) (Some marks) =
    earnings_of section marks.vulnerability (shown_results section items board)

-- what the results of a board earn, so far as they are shown
abbrev pub board_earnings : Section → List Shown → ℕ → List Earning
board_earnings section items board =
    earnings_by section items board (shown_hands items board) (shown_marks items board)

-- what the results of all boards earn, so far as they are shown
unfoldable pub all_earnings : Section → List Shown → List Earning
all_earnings section items = flat_map (board_earnings section items) (boards section)

-- the ranking of all pairs, over what is shown
abbrev pub ranking_by : List Shown → Option Public → Body
ranking_by items None = body.NoSuchBoard
ranking_by items (Some public) = body.Ranking (ranking_of public.movement (all_earnings public.movement items))

-- the accounts with their roles, and the inheritance of roles
abbrev pub accounts_by : Option (List Account) → Option (List Inheritance) → Body
accounts_by None pairs = body.NoSuchBoard
accounts_by (Some users) None = body.NoSuchBoard
accounts_by (Some users) (Some pairs) = body.Accounts users pairs

-- the answer to each query, from what is shown
unfoldable pub answer_from : Query → List Shown → Body
answer_from query.Status items = status_by (content_shown items fact.Public)
answer_from (query.Board board) items = board_by board (shown_hands items board) (shown_marks items board)
answer_from (query.Traveller board) items = traveller_by items board (shown_public items) (shown_marks items board)
answer_from (query.Analysis board) items = analysis_by board (shown_analysis items board)
answer_from (query.Par board) items = par_by board (shown_analysis items board) (shown_marks items board)
answer_from (query.Play cell) items = body.Play cell (shown_play items cell)
answer_from (query.Costs cell) items = body.Costs cell (shown_costs items cell)
answer_from (query.Reason cell) items = body.Reason cell (shown_reason items cell)
answer_from (query.List formula from limit) items = list_by items formula from limit (shown_public items)
answer_from query.Ranking items = ranking_by items (shown_public items)
answer_from query.Accounts items = accounts_by (shown_accounts items) (shown_pairs items)
