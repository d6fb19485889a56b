-- What is written of a traveller: a row for each result that is shown, table by table.
use Rattle.std.specs.Prelude.{ℕ, List, [], ◌∷◌, codes}
use Rattle.serde_json.specs.Data.{Data, string, number, array, object, member, no_members}
use Rattle.serde_json.specs.Find.{of_integer}
use Rattle.serde_json.specs.View.{items_of}
use Rattle.table_terms.specs.declared.pair.Pair.{Pair}
use Rattle.table_terms.specs.Pair.{pair_text}
use Rattle.table_terms.specs.Place.{place_letter}
use Rattle.table_terms.specs.Strain.{strain_letter}
use Rattle.scoring.specs.Doubling.{times_doubled}
use Rattle.scoring.specs.declared.outcome.Outcome.{Outcome}
use Rattle.scoring.specs.declared.outcome.Outcome.TheVariants as outcome
use Rattle.standings.specs.declared.row_result.RowResult.{RowResult}
use Rattle.standings.specs.declared.row_result.RowResult.TheVariants.{Played, Ruled}
use Rattle.standings.specs.declared.traveller_row.TravellerRow.{TravellerRow}
use Rattle.reply_texts.specs.DataOf.{number_data, list_data}

-- how a board ended, as a message has it
abbrev pub outcome_data : Outcome → Data
outcome_data outcome.PassedOut = string (codes "pass")
outcome_data (outcome.Played contract tricks) =
    object (member (codes "by") (string (place_letter contract.declarer ∷ []))
    (member (codes "doubled") (number_data (times_doubled contract.doubling))
    (member (codes "level") (number_data contract.level)
    (member (codes "strain") (string (strain_letter contract.strain ∷ []))
    (member (codes "tricks") (number_data tricks) no_members)))))

-- what a row says of these pairs at a table. A result that was played: North-South's scoring units, how the board
-- ended, and North-South's score. A ruling: North-South's percentage and East-West's
abbrev pub result_data : ℕ → Pair → Pair → RowResult → Data
result_data table north_south east_west (Played outcome score points) =
    object (member (codes "ew") (string (pair_text east_west))
    (member (codes "ns") (string (pair_text north_south))
    (member (codes "points") (number_data points)
    (member (codes "result") (outcome_data outcome)
    (member (codes "score") (number (of_integer score))
    (member (codes "table") (number_data table) no_members))))))
result_data table north_south east_west (Ruled north_south_percentage east_west_percentage) =
    object (member (codes "ew") (string (pair_text east_west))
    (member (codes "ns") (string (pair_text north_south))
    (member (codes "ruling") (array (items_of
    (number_data north_south_percentage ∷ number_data east_west_percentage ∷ [])))
    (member (codes "table") (number_data table) no_members))))

abbrev pub traveller_row_data : TravellerRow → Data
traveller_row_data row = result_data row.table row.north_south row.east_west row.result

-- the board's number and its rows
abbrev pub traveller_data : ℕ → List TravellerRow → Data
traveller_data board rows =
    object (member (codes "board") (number_data board)
    (member (codes "rows") (list_data traveller_row_data rows) no_members))
