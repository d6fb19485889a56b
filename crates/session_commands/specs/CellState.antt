-- What is known of a cell, asked by commands.
use Rattle.std.specs.Prelude.{Bool, true, false, not, ◌&&◌, ◌||◌, Some, is_some, List}
use Rattle.std.specs.Cmp.Lexicographic.{pointwise}
use Rattle.cards.specs.declared.card.Card.{Card}
use Rattle.cards.specs.PlayedCards.{has_card, same_card}
use Rattle.scoring.specs.declared.contract.Contract.{Contract}
use Rattle.scoring.specs.declared.outcome.Outcome.{Outcome}
use Rattle.session_commands.specs.declared.cell_state.CellState.{CellState}
use Rattle.session_commands.specs.declared.cell_state.CellState.TheVariants.{Empty, Entered, Confirmed, Ruled}
use Rattle.scoring.specs.declared.outcome.Outcome.TheVariants.{PassedOut, Played}
use Rattle.scoring.specs.Outcome.{same_outcome}
use Rattle.solver_results.specs.PlayAnswer.{PlayedDeal}

-- whether there is a result: one that is confirmed, or a ruling
abbrev pub has_result : CellState → Bool
has_result Empty = false
has_result (Entered outcome play) = false
has_result (Confirmed outcome play costs) = true
has_result (Ruled north_south east_west reason) = true

-- whether nothing is known
abbrev pub is_empty : CellState → Bool
is_empty Empty = true
is_empty (Entered outcome play) = false
is_empty (Confirmed outcome play costs) = false
is_empty (Ruled north_south east_west reason) = false

-- whether another outcome is entered
abbrev pub is_entered_otherwise : CellState → Outcome → Bool
is_entered_otherwise Empty outcome = false
is_entered_otherwise (Entered entered play) outcome = not (same_outcome outcome entered)
is_entered_otherwise (Confirmed confirmed play costs) outcome = false
is_entered_otherwise (Ruled north_south east_west reason) outcome = false

-- whether it is an outcome of this contract, with whatever tricks
abbrev pub is_contract_of : Outcome → Contract → Bool
is_contract_of PassedOut contract = false
is_contract_of (Played own tricks) contract = same_outcome (Played own tricks) (Played contract tricks)

-- whether two plays are one
abbrev pub same_play : List Card → List Card → Bool
same_play a b = pointwise same_card a b

-- whether it is confirmed with this contract and this play
abbrev pub is_played_as : CellState → Contract → List Card → Bool
is_played_as Empty contract cards = false
is_played_as (Entered outcome play) contract cards = false
is_played_as (Confirmed outcome play costs) contract cards = is_contract_of outcome contract && same_play play cards
is_played_as (Ruled north_south east_west reason) contract cards = false

-- whether nothing of its play is left to be counted: its costs are there, or no card was noted
abbrev pub is_counted : CellState → Bool
is_counted Empty = false
is_counted (Entered outcome play) = false
is_counted (Confirmed outcome play costs) = is_some costs || not (has_card play)
is_counted (Ruled north_south east_west reason) = false

-- with what its cards cost, where it is confirmed
abbrev pub with_costs : CellState → PlayedDeal → CellState
with_costs Empty costs = Empty
with_costs (Entered outcome play) costs = Entered outcome play
with_costs (Confirmed outcome play old) costs = Confirmed outcome play (Some costs)
with_costs (Ruled north_south east_west reason) costs = Ruled north_south east_west reason
