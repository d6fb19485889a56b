-- The numbers that facts say are those of the hands, the contract and the cards that other facts say.
use Rattle.std.proofs.Common.{◌≡◌, ◌≢◌, ℕ, Bool, true, false, List, refl, sym, ap, ◌∙◌}
use Rattle.std.specs.Prelude.{Option, Some, None, option_map, if◌then◌else◌}
use Rattle.cards.specs.Hands.{Hands}
use Rattle.cards.specs.declared.card.Card.{Card}
use Rattle.movement.specs.declared.cell.Cell.{Cell}
use Rattle.cards.specs.PlayedCards.{has_card}
use Rattle.query_filter.specs.declared.trick_table.TrickTable.{TrickTable}
use Rattle.session_state.specs.OwnNumbers.{KeepsOwn}
use Rattle.session_state.specs.SessionState.{SessionState, cell_at, table_at, IsPlaced}
use Rattle.session_commands.specs.declared.cell_state.CellState.{CellState}
use Rattle.session_commands.specs.declared.cell_state.CellState.TheVariants.{Empty, Entered, Confirmed, Ruled}
use Rattle.solver_results.specs.PlayAnswer.{answer_for_play}
use Rattle.standings.specs.declared.cell_result.CellResult.TheVariants as cell_result
use Rattle.session_queries.specs.Content.{analysis_of, costs_of, found_of, play_of, result_of, tricks_of_deal}
use Rattle.session_queries.specs.Numbers.{IsAnalysisOf, IsCountOf}
use Rattle.session_queries.specs.declared.card_costs.CardCosts.{CardCosts}
use Rattle.session_queries.specs.declared.card_costs.CardCosts.TheVariants.{Pending, NoCards}

-- an analysis has the numbers of its board's hands
pub analysis_own : (state : SessionState) (board : ℕ) (tricks : TrickTable) → KeepsOwn state → analysis_of state board ≡
    Some tricks → IsAnalysisOf state board tricks
analysis_own state board tricks keeps said = by_table (table_at state board) refl said
  where
    by_table : (found : Option Hands) → table_at state board ≡ found → option_map tricks_of_deal found ≡ Some tricks →
        IsAnalysisOf state board tricks
    by_table None is said = absurd cc
    by_table (Some hands) is said = record {
      hands = hands;
      dealt = keeps.tables board hands is;
      numbers = let same : tricks_of_deal hands ≡ tricks = cc in sym same;
    }

-- costs are the answer for the board's hands, the contract of the result and the cards as they were played
pub costs_own : (state : SessionState) (cell : Cell) (counted : CardCosts) → KeepsOwn state → IsPlaced cell →
    costs_of (cell_at state cell) ≡ Some counted →
    counted ≢ Pending → counted ≢ NoCards → IsCountOf state cell counted
costs_own state cell counted keeps placed said not_pending some_cards = by_known (cell_at state cell) refl said
  where
    uncounted : (b : Bool) → Some (if b then Pending else NoCards) ≡ Some counted → ⊥
    uncounted true is = let same : Pending ≡ counted = cc in not_pending (sym same)
    uncounted false is = let same : NoCards ≡ counted = cc in some_cards (sym same)

    by_known : (known : CellState) → cell_at state cell ≡ known → costs_of known ≡ Some counted → IsCountOf state cell
        counted
    by_known Empty is said = absurd cc
    by_known (Entered outcome play) is said = absurd cc
    by_known (Confirmed outcome play None) is said = absurd (uncounted (has_card play) said)
    by_known (Confirmed outcome play (Some costs)) is said =
        let own = keeps.costs cell outcome play costs placed is in
        let same : found_of (answer_for_play costs) ≡ counted = cc in
        record {
          hands = costs.deal;
          contract = costs.contract;
          tricks = own.tricks;
          cards = play;
          dealt = own.hands;
          result = ap result_of is ∙ ap (λ outcome. Some (cell_result.Confirmed outcome)) own.contract;
          play = ap play_of is;
          numbers = sym same
              ∙ ap (λ cards. found_of
              (answer_for_play (record { deal = costs.deal; contract = costs.contract; play = cards }))) (sym own.play);
        }
    by_known (Ruled north_south east_west reason) is said = absurd (uncounted false said)
