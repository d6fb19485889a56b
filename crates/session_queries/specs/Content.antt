-- What a fact says of a state, as plain data.
use Rattle.std.specs.Prelude.{ℕ, ◌-◌, if◌then◌else◌, Option, Some, None, option_map, List, [], slice_get}
use Rattle.cards.specs.Hands.{Hands}
use Rattle.cards.specs.declared.card.Card.{Card}
use Rattle.table_terms.specs.declared.place.Place.TheVariants.{North, East, South, West}
use Rattle.table_terms.specs.declared.strain.Strain.{Strain}
use Rattle.table_terms.specs.declared.strain.Strain.TheVariants.{Spades, Hearts, Diamonds, Clubs, NoTrump}
use Rattle.cards.specs.DoubleDummy.{declarer_tricks}
use Rattle.movement.specs.declared.cell.Cell.{Cell}
use Rattle.rbac.specs.declared.account.Account.{Account}
use Rattle.rbac.specs.declared.inheritance.Inheritance.{Inheritance}
use Rattle.disclosure_rules.specs.declared.fact.Fact.{Fact}
use Rattle.disclosure_rules.specs.declared.fact.Fact.TheVariants as fact
use Rattle.disclosure_rules.specs.declared.public.Public.{Public}
use Rattle.query_filter.specs.declared.trick_table.StrainTricks.{StrainTricks}
use Rattle.query_filter.specs.declared.trick_table.TrickTable.{TrickTable}
use Rattle.solver_results.specs.PlayAnswer.{PlayedDeal, answer_for_play}
use Rattle.solver_results.specs.declared.play_answer.PlayAnswer.{PlayAnswer}
use Rattle.solver_results.specs.declared.play_answer.PlayAnswer.TheVariants as answer
use Rattle.session_commands.specs.declared.cell_state.CellState.{CellState}
use Rattle.session_commands.specs.declared.cell_state.CellState.TheVariants.{Empty, Entered, Confirmed, Ruled}
use Rattle.session_state.specs.declared.seated.Seated.{Seated}
use Rattle.session_state.specs.declared.shown_user.ShownUser.{ShownUser}
use Rattle.notices.specs.declared.notices.Notices.{Notices}
use Rattle.cards.specs.PlayedCards.{has_card}
use Rattle.session_state.specs.Readers.{seats_in_order, shown_users}
use Rattle.session_state.specs.SessionState.{SessionState, cell_at, table_at}
use Rattle.session_queries.specs.declared.card_costs.CardCosts.{CardCosts}
use Rattle.session_queries.specs.declared.card_costs.CardCosts.TheVariants.{Pending, NoCards, Each, NotAPlay}
use Rattle.standings.specs.declared.cell_result.CellResult.{CellResult}
use Rattle.standings.specs.declared.cell_result.CellResult.TheVariants as cell_result

-- what a fact says: the public one beside what every member may see the seats, the names to show and what the session
-- tells of itself; a fact of a cell says nothing where the cell has no result
pub data Content : Type 0 where
  says_public : Public → List Seated → List ShownUser → Notices → Content
  says_accounts : List Account → List Inheritance → Content
  says_hands : Option Hands → Content
  says_analysis : Option TrickTable → Content
  says_result : Option CellResult → Content
  says_play : Option (List Card) → Content
  says_costs : Option CardCosts → Content
  says_reason : Option ℕ → Content

-- the result of a cell: its confirmed outcome, or how it was ruled
abbrev pub result_of : CellState → Option CellResult
result_of Empty = None
result_of (Entered outcome play) = None
result_of (Confirmed outcome play costs) = Some (cell_result.Confirmed outcome)
result_of (Ruled north_south east_west reason) = Some (cell_result.Ruled north_south east_west)

-- the cards as they were played at a cell; a ruling has none
abbrev pub play_of : CellState → Option (List Card)
play_of Empty = None
play_of (Entered outcome play) = None
play_of (Confirmed outcome play costs) = Some play
play_of (Ruled north_south east_west reason) = Some []

-- what was found of a play: what each card costs, or which is the first that is not legal
abbrev pub found_of : PlayAnswer → CardCosts
found_of (answer.Costs costs) = Each costs
found_of (answer.NotAPlay number) = NotAPlay number

-- what the cards of a play cost, once they are counted: where no card was noted there is nothing to count
abbrev pub costs_of_play : List Card → Option PlayedDeal → CardCosts
costs_of_play play None = if has_card play then Pending else NoCards
costs_of_play play (Some counted) = found_of (answer_for_play counted)

-- what the cards that were played at a cell cost
abbrev pub costs_of : CellState → Option CardCosts
costs_of Empty = None
costs_of (Entered outcome play) = None
costs_of (Confirmed outcome play costs) = Some (costs_of_play play costs)
costs_of (Ruled north_south east_west reason) = Some NoCards

-- the reason of a ruling, which is 0 where a result is confirmed
abbrev pub reason_of : CellState → Option ℕ
reason_of Empty = None
reason_of (Entered outcome play) = None
reason_of (Confirmed outcome play costs) = Some 0
reason_of (Ruled north_south east_west reason) = Some reason

-- the tricks of the four declarers in a strain of a deal
abbrev pub strain_of_deal : Hands → Strain → StrainTricks
strain_of_deal hands strain = record {
  north = declarer_tricks hands strain North;
  east = declarer_tricks hands strain East;
  south = declarer_tricks hands strain South;
  west = declarer_tricks hands strain West;
}

-- the twenty numbers of a deal's table
abbrev pub tricks_of_deal : Hands → TrickTable
tricks_of_deal hands = record {
  spades = strain_of_deal hands Spades;
  hearts = strain_of_deal hands Hearts;
  diamonds = strain_of_deal hands Diamonds;
  clubs = strain_of_deal hands Clubs;
  no_trump = strain_of_deal hands NoTrump;
}

-- the double-dummy tricks of a board, once it is solved
abbrev pub analysis_of : SessionState → ℕ → Option TrickTable
analysis_of state board = option_map tricks_of_deal (table_at state board)

-- what each fact says of a state
abbrev pub content : SessionState → Fact → Content
content state fact.Public = says_public state.public (seats_in_order state) (shown_users state) state.notices
content state fact.Accounts = says_accounts state.roles.accounts state.roles.pairs
content state (fact.Hands board) = says_hands (slice_get state.deals (board - 1))
content state (fact.Analysis board) = says_analysis (analysis_of state board)
content state (fact.Result cell) = says_result (result_of (cell_at state cell))
content state (fact.Play cell) = says_play (play_of (cell_at state cell))
content state (fact.Cost cell) = says_costs (costs_of (cell_at state cell))
content state (fact.Reason cell) = says_reason (reason_of (cell_at state cell))
