-- The list of boards: those whose hands are shown and for which a filter holds of what is shown of them.
use Rattle.std.specs.Prelude.{ℕ, Bool, true, false, ◌&&◌, is_some, nat_le, Option, Some, None, List, filter, filter_map}
use Rattle.scoring.specs.declared.outcome.Outcome.{Outcome}
use Rattle.movement.specs.Movement.{Section}
use Rattle.disclosure_rules.specs.declared.marks.Marks.{Marks}
use Rattle.query_filter.specs.Formula.{Formula}
use Rattle.query_filter.specs.Holds.{holds}
use Rattle.query_filter.specs.declared.board_facts.BoardFacts.{BoardFacts}
use Rattle.query_filter.specs.declared.trick_table.TrickTable.{TrickTable}
use Rattle.standings.specs.declared.cell_result.CellResult.{CellResult}
use Rattle.standings.specs.declared.cell_result.CellResult.TheVariants as cell_result
use Rattle.standings.specs.declared.table_result.TableResult.{TableResult}
use Rattle.session_queries.specs.Facts.{boards}
use Rattle.session_queries.specs.Reading.{shown_hands, shown_marks, shown_analysis, shown_results}
use Rattle.session_queries.specs.Shown.{Shown}

-- the outcome of a result, if it was played
abbrev pub outcome_of : CellResult → Option Outcome
outcome_of (cell_result.Confirmed outcome) = Some outcome
outcome_of (cell_result.Ruled north_south east_west) = None

-- the outcomes of the results that were played
abbrev pub outcomes_of : List TableResult → List Outcome
outcomes_of results = filter_map (λ (found : TableResult). outcome_of found.result) results

-- an analysis that is shown and isn't still to come
abbrev pub tricks_shown : Option (Option TrickTable) → Option TrickTable
tricks_shown None = None
tricks_shown (Some tricks) = tricks

-- what is shown of a board, for a filter
abbrev pub facts_for : Section → List Shown → ℕ → Marks → BoardFacts
facts_for section items board marks = record {
  vulnerability = marks.vulnerability;
  dealer = marks.dealer;
  outcomes = outcomes_of (shown_results section items board);
  tricks = tricks_shown (shown_analysis items board);
}

-- whether a filter holds of a board; without a filter each board is listed
abbrev pub passes : Option Formula → BoardFacts → Bool
passes None facts = true
passes (Some formula) facts = holds formula facts

-- whether a filter holds of what is shown of a board with these marks
abbrev pub passes_with : Section → List Shown → Option Formula → ℕ → Option Marks → Bool
passes_with section items formula board None = false
passes_with section items formula board (Some marks) = passes formula (facts_for section items board marks)

-- whether a board is listed
unfoldable pub is_listed : Section → List Shown → Option Formula → ℕ → Bool
is_listed section items formula board =
    is_some (shown_hands items board) && passes_with section items formula board (shown_marks items board)

-- the boards that are listed, from a board on
unfoldable pub listed_from : Section → List Shown → Option Formula → ℕ → List ℕ
listed_from section items formula from =
    filter (λ board. nat_le from board && is_listed section items formula board) (boards section)
