-- A report as an export in PBN 2.1: each board as a game with its double-dummy numbers and its results, and behind the
-- boards a game with the ranking.
use Rattle.std.specs.Prelude.{ℕ, nat_eq, if◌then◌else◌, List, [], ◌∷◌, Option, Some, None, codes, map}
use Rattle.std.specs.Fmt.{decimal}
use Rattle.table_terms.specs.Pair.{pair_text}
use Rattle.table_terms.specs.Place.{place_letter}
use Rattle.table_terms.specs.declared.place.Place.{Place}
use Rattle.table_terms.specs.declared.place.Place.TheVariants.{North, East, South, West}
use Rattle.table_terms.specs.declared.strain.Strain.{Strain}
use Rattle.table_terms.specs.declared.strain.Strain.TheVariants.{Spades, Hearts, Diamonds, Clubs, NoTrump}
use Rattle.query_filter.specs.declared.trick_table.TrickTable.{TrickTable}
use Rattle.query_filter.specs.TrickTable.{tricks_of}
use Rattle.pbn_records.specs.declared.board.Board.{Board}
use Rattle.pbn_export.specs.Tables.{TableRow, GameTag, tag}
use Rattle.pbn_export.specs.Games.{ExportedBoard, unknown}
use Rattle.pbn_export.specs.Export.{export_text}
use Rattle.scoring.specs.declared.standing.Standing.{Standing}
use Rattle.session_report.specs.declared.board_report.BoardReport.{BoardReport}
use Rattle.session_report.specs.declared.report.Report.{Report}
use Rattle.session_report.specs.declared.result_row.ResultRow.{ResultRow}
use Rattle.text_writer.specs.Hundredths.{hundredths_text}
use Rattle.report_texts.specs.Terms.{phase_text, strain_text, pair_names, row_contract, row_declarer, row_tricks, row_score}
use Rattle.report_texts.specs.Terms.{north_south_percent, east_west_percent, percent_text, place_text}

-- a text, or `?` where there is none
abbrev pub known_text : Option (List ℕ) → List ℕ
known_text None = unknown
known_text (Some text) = text

-- a day as `2026.11.27`
abbrev pub dotted_byte : ℕ → ℕ
dotted_byte byte = if nat_eq byte 45 then 46 else byte

abbrev pub dotted_date : Option (List ℕ) → List ℕ
dotted_date None = codes "????.??.??"
dotted_date (Some date) = map dotted_byte date

-- ---- double-dummy numbers

abbrev pub optimum_row : TrickTable → Place → Strain → TableRow
optimum_row tricks declarer strain = record {
  first = place_letter declarer ∷ [];
  others = strain_text strain ∷ decimal (tricks_of tricks strain declarer) ∷ [];
}

abbrev pub optimum_rows : Option TrickTable → List TableRow
optimum_rows None = []
optimum_rows (Some tricks) =
    optimum_row tricks North NoTrump ∷ optimum_row tricks North Spades ∷ optimum_row tricks North Hearts
    ∷ optimum_row tricks North Diamonds ∷ optimum_row tricks North Clubs
    ∷ optimum_row tricks South NoTrump ∷ optimum_row tricks South Spades ∷ optimum_row tricks South Hearts
    ∷ optimum_row tricks South Diamonds ∷ optimum_row tricks South Clubs
    ∷ optimum_row tricks East NoTrump ∷ optimum_row tricks East Spades ∷ optimum_row tricks East Hearts
    ∷ optimum_row tricks East Diamonds ∷ optimum_row tricks East Clubs
    ∷ optimum_row tricks West NoTrump ∷ optimum_row tricks West Spades ∷ optimum_row tricks West Hearts
    ∷ optimum_row tricks West Diamonds ∷ optimum_row tricks West Clubs ∷ []

abbrev pub optimum_table : Option TrickTable → GameTag
optimum_table tricks = record {
  name = codes "OptimumResultTable";
  value = codes "Declarer;Denomination;Result";
  rows = optimum_rows tricks;
}

-- ---- results

abbrev pub score_row : Report → ResultRow → TableRow
score_row report row = record {
  first = decimal row.row.table;
  others =
      pair_text row.row.north_south
      ∷ pair_text row.row.east_west
      ∷ row_contract row.row.result
      ∷ row_declarer row.row.result
      ∷ row_tricks row.row.result
      ∷ row_score row.row.result
      ∷ hundredths_text row.earning.for_north_south
      ∷ hundredths_text row.earning.for_east_west
      ∷ north_south_percent row row.row.result
      ∷ east_west_percent row row.row.result
      ∷ pair_names report.players row.row.north_south
      ∷ pair_names report.players row.row.east_west
      ∷ [];
}

abbrev pub score_columns : List ℕ
score_columns =
    codes "Table;PairId_NS;PairId_EW;Contract;Declarer;Result;Score_NS;MP_NS;MP_EW;Percentage_NS;Percentage_EW;Names_NS;Names_EW"

abbrev pub score_table : Report → BoardReport → GameTag
score_table report board = record {
  name = codes "ScoreTable";
  value = score_columns;
  rows = map (score_row report) board.rows;
}

-- how far the session has come
abbrev pub phase_tag : Report → GameTag
phase_tag report = tag (codes "SessionPhase") (phase_text report.phase)

abbrev pub exported_board : Report → BoardReport → ExportedBoard
exported_board report board = record {
  number = board.number;
  event = known_text report.title;
  date = dotted_date report.date;
  board = record { deal = board.deal; dealer = board.marks.dealer; vulnerability = board.marks.vulnerability };
  further = optimum_table board.tricks ∷ score_table report board ∷ phase_tag report ∷ [];
}

-- ---- the ranking

abbrev pub total_row : Report → Standing → TableRow
total_row report standing = record {
  first = place_text report.ranking standing;
  others =
      pair_text standing.pair
      ∷ hundredths_text standing.earned
      ∷ percent_text standing.earned standing.tops
      ∷ pair_names report.players standing.pair
      ∷ [];
}

abbrev pub total_table : Report → GameTag
total_table report = record {
  name = codes "TotalScoreTable";
  value = codes "Rank;PairId;TotalScoreMP;TotalPercentage;Names";
  rows = map (total_row report) report.ranking;
}

-- the game behind the boards
abbrev pub totals_game : Report → List GameTag
totals_game report =
    tag (codes "Event") (known_text report.title)
    ∷ tag (codes "Date") (dotted_date report.date)
    ∷ phase_tag report
    ∷ tag (codes "SessionVersion") (decimal report.version)
    ∷ total_table report
    ∷ []

-- ---- the whole

unfoldable pub pbn_text : Report → List ℕ
pbn_text report = export_text (map (exported_board report) report.boards) (totals_game report)

-- the deal and the marks of a board
abbrev pub board_read : BoardReport → Board
board_read board = record { deal = board.deal; dealer = board.marks.dealer; vulnerability = board.marks.vulnerability }
