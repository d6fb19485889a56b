-- Whose the double-dummy numbers are that facts say: those of the hands, the contract and the cards that other facts
-- say.
use Rattle.std.specs.Prelude.{◌≡◌, ℕ, ◌-◌, Some, List, slice_get}
use Rattle.cards.specs.Hands.{Hands}
use Rattle.cards.specs.declared.card.Card.{Card}
use Rattle.movement.specs.declared.cell.Cell.{Cell}
use Rattle.disclosure_rules.specs.declared.marks.Marks.{Marks}
use Rattle.query_filter.specs.declared.trick_table.TrickTable.{TrickTable}
use Rattle.par.specs.declared.par.Par.{Par}
use Rattle.scoring.specs.declared.contract.Contract.{Contract}
use Rattle.scoring.specs.declared.outcome.Outcome.TheVariants.{Played}
use Rattle.session_state.specs.OwnNumbers.{IsHandsOf}
use Rattle.session_state.specs.SessionState.{SessionState, cell_at}
use Rattle.solver_results.specs.PlayAnswer.{answer_for_play}
use Rattle.session_queries.specs.Content.{found_of, play_of, result_of, tricks_of_deal}
use Rattle.session_queries.specs.Par.{marked_par}
use Rattle.session_queries.specs.declared.card_costs.CardCosts.{CardCosts}
use Rattle.standings.specs.declared.cell_result.CellResult.TheVariants.{Confirmed}

-- the twenty numbers are those of the board's hands
pub record IsAnalysisOf (state : SessionState) (board : ℕ) (tricks : TrickTable) : Type 0 where
  pub hands : Hands
  pub dealt : IsHandsOf state.deals board hands
  pub numbers : tricks ≡ tricks_of_deal hands

-- the par is that of the exhaustive numbers of the board's hands, by what is marked on the board
pub record IsParOf (state : SessionState) (board : ℕ) (par : Par) : Type 0 where
  pub hands : Hands
  pub marks : Marks
  pub dealt : IsHandsOf state.deals board hands
  pub marked : slice_get state.public.marks (board - 1) ≡ Some marks
  pub numbers : par ≡ marked_par marks (tricks_of_deal hands)

-- what is said of the costs is the answer for the board's hands, the contract of the result and the cards as they were
-- played
pub record IsCountOf (state : SessionState) (cell : Cell) (counted : CardCosts) : Type 0 where
  pub hands : Hands
  pub contract : Contract
  pub tricks : ℕ
  pub cards : List Card
  pub dealt : IsHandsOf state.deals cell.board hands
  pub result : result_of (cell_at state cell) ≡ Some (Confirmed (Played contract tricks))
  pub play : play_of (cell_at state cell) ≡ Some cards
  pub numbers : counted ≡ found_of (answer_for_play (record { deal = hands; contract = contract; play = cards }))
