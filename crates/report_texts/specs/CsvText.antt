-- A report as comma-separated tables, by the kit's csv: what the session is, the ranking, the results and the boards, each
-- with a line of column names, and an empty line between two tables.
use Rattle.std.specs.Prelude.{◌≡◌, ℕ, List, [], ◌∷◌, ◌++◌, Option, Some, None, IfOk, codes, map}
use Rattle.std.specs.Fmt.{decimal}
use Rattle.std.specs.List.{concat}
use Rattle.csv.specs.Records.{fields_of, partial_of}
use Rattle.csv.specs.Writing.{default_writer, row_text}
use Rattle.cards.specs.HandText.{deal_text}
use Rattle.table_terms.specs.Pair.{pair_text}
use Rattle.table_terms.specs.Place.{place_letter}
use Rattle.table_terms.specs.Vulnerability.{vulnerability_text}
use Rattle.table_terms.specs.declared.place.Place.{Place}
use Rattle.table_terms.specs.declared.place.Place.TheVariants.{North, East, South, West}
use Rattle.table_terms.specs.declared.strain.Strain.{Strain}
use Rattle.table_terms.specs.declared.strain.Strain.TheVariants.{Spades, Hearts, Diamonds, Clubs, NoTrump}
use Rattle.query_filter.specs.TrickTable.{tricks_of}
use Rattle.query_filter.specs.declared.trick_table.TrickTable.{TrickTable}
use Rattle.scoring.specs.declared.standing.Standing.{Standing}
use Rattle.session_report.specs.declared.board_report.BoardReport.{BoardReport}
use Rattle.session_report.specs.declared.report.Report.{Report}
use Rattle.session_report.specs.declared.result_row.ResultRow.{ResultRow}
use Rattle.text_writer.specs.Hundredths.{hundredths_text}
use Rattle.report_texts.specs.Terms.{text_or_empty, phase_text, first_player, second_player, player_name, player_number, pair_names}
use Rattle.report_texts.specs.Terms.{row_contract, row_declarer, row_tricks, row_score, north_south_percent, east_west_percent}
use Rattle.report_texts.specs.Terms.{percent_text, place_text}
use Rattle.report_texts.specs.declared.record_writer.RecordWriter.{RecordWriter}

-- a record, with the end of its line: fields from people stand in quotes where they have to
abbrev pub record_text : List (List ℕ) → List ℕ
record_text fields = row_text default_writer fields

-- an empty line
abbrev pub empty_line : List ℕ
empty_line = 10 ∷ []

-- ---- what the session is

abbrev pub occasion_columns : List (List ℕ)
occasion_columns = codes "title" ∷ codes "date" ∷ codes "phase" ∷ codes "version" ∷ []

abbrev pub session_fields : Report → List (List ℕ)
session_fields report =
    text_or_empty report.title ∷ text_or_empty report.date ∷ phase_text report.phase ∷ decimal report.version ∷ []

-- ---- the ranking

abbrev pub ranking_columns : List (List ℕ)
ranking_columns =
    codes "place" ∷ codes "pair" ∷ codes "first_player" ∷ codes "first_number" ∷ codes "second_player"
    ∷ codes "second_number" ∷ codes "points" ∷ codes "top" ∷ codes "percentage" ∷ []

abbrev pub ranking_fields : Report → Standing → List (List ℕ)
ranking_fields report standing =
    place_text report.ranking standing
    ∷ pair_text standing.pair
    ∷ player_name (first_player report.players standing.pair)
    ∷ player_number (first_player report.players standing.pair)
    ∷ player_name (second_player report.players standing.pair)
    ∷ player_number (second_player report.players standing.pair)
    ∷ hundredths_text standing.earned
    ∷ hundredths_text standing.tops
    ∷ percent_text standing.earned standing.tops
    ∷ []

abbrev pub ranking_record : Report → Standing → List ℕ
ranking_record report standing = record_text (ranking_fields report standing)

-- ---- the results

abbrev pub result_columns : List (List ℕ)
result_columns =
    codes "board" ∷ codes "table" ∷ codes "ns" ∷ codes "ns_names" ∷ codes "ew" ∷ codes "ew_names" ∷ codes "contract"
    ∷ codes "declarer" ∷ codes "tricks" ∷ codes "score" ∷ codes "ns_points" ∷ codes "ew_points" ∷ codes "top"
    ∷ codes "ns_percentage" ∷ codes "ew_percentage" ∷ []

abbrev pub result_fields : Report → ResultRow → List (List ℕ)
result_fields report row =
    decimal row.board
    ∷ decimal row.row.table
    ∷ pair_text row.row.north_south
    ∷ pair_names report.players row.row.north_south
    ∷ pair_text row.row.east_west
    ∷ pair_names report.players row.row.east_west
    ∷ row_contract row.row.result
    ∷ row_declarer row.row.result
    ∷ row_tricks row.row.result
    ∷ row_score row.row.result
    ∷ hundredths_text row.earning.for_north_south
    ∷ hundredths_text row.earning.for_east_west
    ∷ hundredths_text row.earning.top
    ∷ north_south_percent row row.row.result
    ∷ east_west_percent row row.row.result
    ∷ []

abbrev pub result_record : Report → ResultRow → List ℕ
result_record report row = record_text (result_fields report row)

abbrev pub board_results : Report → BoardReport → List ℕ
board_results report board = concat (map (result_record report) board.rows)

-- ---- the boards

abbrev pub board_columns : List (List ℕ)
board_columns =
    codes "board" ∷ codes "dealer" ∷ codes "vulnerable" ∷ codes "deal"
    ∷ codes "N_NT" ∷ codes "N_S" ∷ codes "N_H" ∷ codes "N_D" ∷ codes "N_C"
    ∷ codes "E_NT" ∷ codes "E_S" ∷ codes "E_H" ∷ codes "E_D" ∷ codes "E_C"
    ∷ codes "S_NT" ∷ codes "S_S" ∷ codes "S_H" ∷ codes "S_D" ∷ codes "S_C"
    ∷ codes "W_NT" ∷ codes "W_S" ∷ codes "W_H" ∷ codes "W_D" ∷ codes "W_C" ∷ []

-- a double-dummy number, and the empty text where the board isn't solved
abbrev pub tricks_field : Option TrickTable → Place → Strain → List ℕ
tricks_field None declarer strain = []
tricks_field (Some tricks) declarer strain = decimal (tricks_of tricks strain declarer)

-- fields, and those of a declarer behind them
abbrev pub with_declarer : List (List ℕ) → Option TrickTable → Place → List (List ℕ)
with_declarer fields tricks declarer =
    fields
    ++ tricks_field tricks declarer NoTrump ∷ []
    ++ tricks_field tricks declarer Spades ∷ []
    ++ tricks_field tricks declarer Hearts ∷ []
    ++ tricks_field tricks declarer Diamonds ∷ []
    ++ tricks_field tricks declarer Clubs ∷ []

abbrev pub board_marks : BoardReport → List (List ℕ)
board_marks board =
    decimal board.number ∷ (place_letter board.marks.dealer ∷ []) ∷ vulnerability_text board.marks.vulnerability
    ∷ deal_text board.deal ∷ []

abbrev pub board_fields : BoardReport → List (List ℕ)
board_fields board =
    with_declarer (with_declarer (with_declarer (with_declarer (board_marks board)
    board.tricks North) board.tricks East) board.tricks South) board.tricks West

abbrev pub board_record : Report → BoardReport → List ℕ
board_record report board = record_text (board_fields board)

-- ---- the whole

unfoldable pub csv_text : Report → List ℕ
csv_text report =
    concat (record_text occasion_columns
    ∷ record_text (session_fields report)
    ∷ empty_line
    ∷ record_text ranking_columns
    ∷ concat (map (ranking_record report) report.ranking)
    ∷ empty_line
    ∷ record_text result_columns
    ∷ concat (map (board_results report) report.boards)
    ∷ empty_line
    ∷ record_text board_columns
    ∷ concat (map (board_record report) report.boards)
    ∷ [])

-- ---- for private clauses

-- the fields of a record so far, in their order
pub record HasFields (writer : RecordWriter) (fields : List (List ℕ)) : Type 0 where
  pub is : IfOk writer.record (λ row. (fields_of row ≡ fields) × (partial_of row ≡ []))
