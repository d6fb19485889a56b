-- own: what is left to find at a cell.
use Rattle.std.specs.Prelude.{◌≡◌, ◌-◌, ◌||◌, not, Bool, true, false, Option, None, Some, is_some, List, slice_get}
use Rattle.cards.specs.Hands.{Hands}
use Rattle.cards.specs.PlayedCards.{has_card}
use Rattle.cards.specs.declared.card.Card.{Card}
use Rattle.movement.specs.Movement.{IsCell}
use Rattle.movement.specs.declared.cell.Cell.{Cell}
use Rattle.scoring.specs.declared.outcome.Outcome.{Outcome}
use Rattle.scoring.specs.declared.outcome.Outcome.TheVariants.{PassedOut, Played}
use Rattle.session_commands.specs.declared.cell_state.CellState.{CellState}
use Rattle.session_commands.specs.declared.cell_state.CellState.TheVariants.{Empty, Entered, Confirmed, Ruled}
use Rattle.session_state.specs.SessionState.{SessionState, cell_at}
use Rattle.solver_pool.specs.declared.work.Work.{Work}
use Rattle.solver_pool.specs.declared.work.Work.TheVariants.{Costs}

-- what the cards of a play cost, where there was a contract
abbrev pub costs_wanted : Cell → Hands → Outcome → List Card → Option Work
costs_wanted cell deal PassedOut play = None
costs_wanted cell deal (Played contract tricks) play = Some (Costs cell deal contract play)

-- the same, unless they are there or no card was noted
abbrev pub unless_counted : Bool → Option Work → Option Work
unless_counted true wanted = None
unless_counted false wanted = wanted

-- the work that is left of what is known of a cell: the costs of a confirmed result with a contract and a play, until they
-- are there
abbrev pub work_left : Cell → Hands → CellState → Option Work
work_left cell deal Empty = None
work_left cell deal (Entered outcome play) = None
work_left cell deal (Confirmed outcome play costs) =
    unless_counted (is_some costs || not (has_card play)) (costs_wanted cell deal outcome play)
work_left cell deal (Ruled north_south east_west reason) = None

-- the work that is left at a cell in a state: by the hands of its board, and none where no table is scheduled to play the
-- board there
pub record IsWorkLeft (state : SessionState) (cell : Cell) (work : Option Work) : Type 0 where
  pub there :
      (deal : Hands) → IsCell state.public.movement cell → slice_get state.deals (cell.board - 1) ≡ Some deal →
      work ≡ work_left cell deal (cell_at state cell)
  pub none : ¬ IsCell state.public.movement cell → work ≡ None
