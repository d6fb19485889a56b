-- A report as one page of HTML without scripts: what the session is, the ranking, and each board with its hands, its
-- double-dummy numbers and its results. Texts from people are escaped.
use Rattle.std.specs.Prelude.{ℕ, List, [], ◌∷◌, Option, Some, None, codes, map}
use Rattle.std.specs.Fmt.{decimal}
use Rattle.std.specs.List.{concat}
use Rattle.cards.specs.HandText.{holding_text}
use Rattle.cards.specs.Cards.{Cards}
use Rattle.table_terms.specs.Pair.{pair_text}
use Rattle.table_terms.specs.Place.{place_letter}
use Rattle.table_terms.specs.Vulnerability.{vulnerability_text}
use Rattle.table_terms.specs.declared.pair.Pair.{Pair}
use Rattle.table_terms.specs.declared.place.Place.{Place}
use Rattle.table_terms.specs.declared.place.Place.TheVariants.{North, East, South, West}
use Rattle.table_terms.specs.declared.suit.Suit.TheVariants as suit
use Rattle.table_terms.specs.declared.strain.Strain.TheVariants.{Spades, Hearts, Diamonds, Clubs, NoTrump}
use Rattle.disclosure_rules.specs.declared.phase.Phase.{Phase}
use Rattle.disclosure_rules.specs.declared.phase.Phase.TheVariants.{Running, Closed, Final}
use Rattle.query_filter.specs.declared.trick_table.TrickTable.{TrickTable}
use Rattle.scoring.specs.declared.standing.Standing.{Standing}
use Rattle.session_report.specs.declared.board_report.BoardReport.{BoardReport}
use Rattle.session_report.specs.declared.report.Report.{Report}
use Rattle.session_report.specs.declared.result_row.ResultRow.{ResultRow}
use Rattle.text_writer.specs.Hundredths.{hundredths_text}
use Rattle.text_writer.specs.Markup.{escaped}
use Rattle.report_texts.specs.CsvText.{tricks_field}
use Rattle.report_texts.specs.Terms.{text_or_empty, pair_names, row_contract, row_declarer, row_tricks, row_score}
use Rattle.report_texts.specs.Terms.{north_south_percent, east_west_percent, percent_text, place_text}

-- ---- cells and rows of tables

-- a cell with a text of the program's own
abbrev pub table_cell : List ℕ → List ℕ
table_cell text = concat (codes "<td>" ∷ text ∷ codes "</td>" ∷ [])

-- a cell with a text from people
abbrev pub name_cell : List ℕ → List ℕ
name_cell text = concat (codes "<td class='name'>" ∷ escaped text ∷ codes "</td>" ∷ [])

-- ---- the ranking

abbrev pub ranking_row : Report → Standing → List ℕ
ranking_row report standing =
    concat (codes "<tr>"
    ∷ table_cell (place_text report.ranking standing)
    ∷ table_cell (pair_text standing.pair)
    ∷ name_cell (pair_names report.players standing.pair)
    ∷ table_cell (hundredths_text standing.earned)
    ∷ table_cell (hundredths_text standing.tops)
    ∷ table_cell (percent_text standing.earned standing.tops)
    ∷ codes "</tr>\n"
    ∷ [])

abbrev pub ranking_table : Report → List ℕ
ranking_table report =
    concat (codes "<h2>Ranking</h2>\n<table>\n"
    ∷ codes "<tr><th>Place</th><th>Pair</th><th>Names</th><th>Points</th><th>Top</th><th>%</th></tr>\n"
    ∷ concat (map (ranking_row report) report.ranking)
    ∷ codes "</table>\n"
    ∷ [])

-- ---- the boards

abbrev pub hand_row : Place → Cards → List ℕ
hand_row place cards =
    concat (codes "<tr><th>" ∷ (place_letter place ∷ []) ∷ codes "</th>"
    ∷ table_cell (holding_text cards suit.Spades)
    ∷ table_cell (holding_text cards suit.Hearts)
    ∷ table_cell (holding_text cards suit.Diamonds)
    ∷ table_cell (holding_text cards suit.Clubs)
    ∷ codes "</tr>\n"
    ∷ [])

abbrev pub hands_table : BoardReport → List ℕ
hands_table board =
    concat (codes "<table class='hands'>\n"
    ∷ codes "<tr><th></th><th>&spades;</th><th>&hearts;</th><th>&diams;</th><th>&clubs;</th></tr>\n"
    ∷ hand_row North board.deal.north
    ∷ hand_row East board.deal.east
    ∷ hand_row South board.deal.south
    ∷ hand_row West board.deal.west
    ∷ codes "</table>\n"
    ∷ [])

-- the double-dummy numbers of a declarer
abbrev pub tricks_row : Option TrickTable → Place → List ℕ
tricks_row tricks declarer =
    concat (codes "<tr><th>" ∷ (place_letter declarer ∷ []) ∷ codes "</th>"
    ∷ table_cell (tricks_field tricks declarer NoTrump)
    ∷ table_cell (tricks_field tricks declarer Spades)
    ∷ table_cell (tricks_field tricks declarer Hearts)
    ∷ table_cell (tricks_field tricks declarer Diamonds)
    ∷ table_cell (tricks_field tricks declarer Clubs)
    ∷ codes "</tr>\n"
    ∷ [])

abbrev pub tricks_table : Option TrickTable → List ℕ
tricks_table tricks =
    concat (codes "<table class='tricks'>\n"
    ∷ codes "<tr><th></th><th>NT</th><th>S</th><th>H</th><th>D</th><th>C</th></tr>\n"
    ∷ tricks_row tricks North
    ∷ tricks_row tricks East
    ∷ tricks_row tricks South
    ∷ tricks_row tricks West
    ∷ codes "</table>\n"
    ∷ [])

-- nothing where the board isn't solved
abbrev pub tricks_part : Option TrickTable → List ℕ
tricks_part None = []
tricks_part (Some tricks) = tricks_table (Some tricks)

-- a pair with its names
abbrev pub pair_cells : Report → Pair → List ℕ
pair_cells report pair = concat (table_cell (pair_text pair) ∷ name_cell (pair_names report.players pair) ∷ [])

abbrev pub result_row : Report → ResultRow → List ℕ
result_row report row =
    concat (codes "<tr>"
    ∷ table_cell (decimal row.row.table)
    ∷ pair_cells report row.row.north_south
    ∷ pair_cells report row.row.east_west
    ∷ table_cell (row_contract row.row.result)
    ∷ table_cell (row_declarer row.row.result)
    ∷ table_cell (row_tricks row.row.result)
    ∷ table_cell (row_score row.row.result)
    ∷ table_cell (hundredths_text row.earning.for_north_south)
    ∷ table_cell (hundredths_text row.earning.for_east_west)
    ∷ table_cell (north_south_percent row row.row.result)
    ∷ table_cell (east_west_percent row row.row.result)
    ∷ codes "</tr>\n"
    ∷ [])

abbrev pub result_heads : List ℕ
result_heads =
    concat (codes "<tr><th>Table</th><th>NS</th><th>Names</th><th>EW</th><th>Names</th><th>Contract</th><th>By</th>"
    ∷ codes "<th>Tricks</th><th>Score</th><th>NS points</th><th>EW points</th><th>NS %</th><th>EW %</th></tr>\n" ∷ [])

abbrev pub board_section : Report → BoardReport → List ℕ
board_section report board =
    concat (codes "<h3>Board "
    ∷ decimal board.number
    ∷ codes "</h3>\n<p>Dealer "
    ∷ (place_letter board.marks.dealer ∷ [])
    ∷ codes ", vulnerable: "
    ∷ vulnerability_text board.marks.vulnerability
    ∷ codes "</p>\n"
    ∷ hands_table board
    ∷ tricks_part board.tricks
    ∷ codes "<table class='results'>\n"
    ∷ result_heads
    ∷ concat (map (result_row report) board.rows)
    ∷ codes "</table>\n"
    ∷ [])

-- ---- the page

-- what is said of results that aren't final
abbrev pub phase_notice : Phase → List ℕ
phase_notice Running = codes "These results are not final: boards are still being played."
phase_notice Closed = codes "These results are not final: scores may still be corrected."
phase_notice Final = codes "Final results."

-- what the session is called, or that these are results
abbrev pub page_title : Option (List ℕ) → List ℕ
page_title None = codes "Results"
page_title (Some title) = title

-- the page up to its heading
abbrev pub page_top : List ℕ → List ℕ
page_top title =
    concat (codes "<!DOCTYPE html>\n<html lang='en'>\n<head>\n<meta charset='utf-8'>\n<title>"
    ∷ escaped title
    ∷ codes "</title>\n<style>\nbody { font-family: sans-serif; }\ntable { border-collapse: collapse; margin: 1em 0; }\n"
    ∷ codes "td, th { border: 1px solid #999; padding: 0.2em 0.5em; text-align: right; }\n.name { text-align: left; }\n"
    ∷ codes "</style>\n</head>\n<body>\n<h1>"
    ∷ escaped title
    ∷ codes "</h1>\n"
    ∷ [])

-- the day, how far the session has come, and its version
abbrev pub page_notice : Report → List ℕ → List ℕ
page_notice report date =
    concat (codes "<p>"
    ∷ escaped date
    ∷ codes "</p>\n<p>"
    ∷ phase_notice report.phase
    ∷ codes " Version "
    ∷ decimal report.version
    ∷ codes ".</p>\n"
    ∷ [])

abbrev pub page_head : Report → List ℕ
page_head report =
    concat (page_top (page_title report.title) ∷ page_notice report (text_or_empty report.date) ∷ [])

unfoldable pub html_text : Report → List ℕ
html_text report =
    concat (page_head report
    ∷ ranking_table report
    ∷ codes "<h2>Boards</h2>\n"
    ∷ concat (map (board_section report) report.boards)
    ∷ codes "</body>\n</html>\n"
    ∷ [])
