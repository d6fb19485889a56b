-- Whose numbers the solver's are: a table is of its board's own hands, and costs are of their cell's own hands,
-- contract and play. What the numbers are follows, since the types of a table and of costs keep them.
use Rattle.std.specs.Prelude.{◌≡◌, ℕ, ◌-◌, Some, None, List, slice_get}
use Rattle.cards.specs.declared.card.Card.{Card}
use Rattle.cards.specs.Hands.{Hands}
use Rattle.movement.specs.declared.cell.Cell.{Cell}
use Rattle.scoring.specs.declared.outcome.Outcome.{Outcome}
use Rattle.scoring.specs.declared.outcome.Outcome.TheVariants.{Played}
use Rattle.solver_results.specs.PlayAnswer.{PlayedDeal}
use Rattle.session_commands.specs.declared.cell_state.CellState.TheVariants.{Confirmed}
use Rattle.session_commands.specs.declared.command.Command.{Command}
use Rattle.session_commands.specs.declared.command.Command.TheVariants.{Solved, Analysed}
use Rattle.session_state.specs.SessionState.{SessionState, cell_at, table_at, IsPlaced}

-- the hands are those of the board
abbrev pub IsHandsOf : List Hands → ℕ → Hands → Type 0
IsHandsOf deals board hands = slice_get deals (board - 1) ≡ Some hands

-- the costs are of the board's hands, and of the contract and the play of a result
pub record IsCostsOf (deals : List Hands) (board : ℕ) (outcome : Outcome) (cards : List Card)
    (costs : PlayedDeal) : Type 0 where
  pub tricks : ℕ
  pub hands : IsHandsOf deals board costs.deal
  pub contract : outcome ≡ Played costs.contract tricks
  pub play : cards ≡ costs.play

-- the costs are of a confirmed result of the cell, whose costs weren't there yet
pub record IsCounting (state : SessionState) (cell : Cell) (costs : PlayedDeal) : Type 0 where
  pub outcome : Outcome
  pub play : List Card
  pub known : cell_at state cell ≡ Confirmed outcome play None
  pub own : IsCostsOf state.deals cell.board outcome play costs

-- what a command of the solver's tells is of its own board or cell, and wasn't known
pub record TellsOwn (state : SessionState) (command : Command) : Type 0 where
  pub solved : (board : ℕ) (table : Hands) → command ≡ Solved board table →
      IsHandsOf state.deals board table × (table_at state board ≡ None)
  pub analysed : (cell : Cell) (costs : PlayedDeal) → command ≡ Analysed cell costs →
      IsCounting state cell costs

-- each table that is kept is of its board's own hands, and the costs that are kept of a cell are of its own hands,
-- contract and play
pub record KeepsOwn (state : SessionState) : Type 0 where
  pub tables : (board : ℕ) (table : Hands) → table_at state board ≡ Some table → IsHandsOf state.deals board table
  pub costs : (cell : Cell) (outcome : Outcome) (play : List Card) (costs : PlayedDeal) → IsPlaced cell →
      cell_at state cell ≡ Confirmed outcome play (Some costs) → IsCostsOf state.deals cell.board outcome play costs
