-- A report as USEBIO 1.2 (XML 1.0), in this project's reading of it: docs/usebio_reading.dtd. Texts from people are
-- escaped.
use Rattle.std.specs.Prelude.{ℕ, ◌+◌, ◌==◌, if◌then◌else◌, List, [], ◌∷◌, Option, codes, map, length, take, drop}
use Rattle.std.specs.Fmt.{decimal}
use Rattle.std.specs.List.{concat}
use Rattle.cards.specs.Cards.{Cards}
use Rattle.cards.specs.HandText.{holding_text}
use Rattle.table_terms.specs.Side.{side_text}
use Rattle.table_terms.specs.declared.pair.Pair.{Pair}
use Rattle.table_terms.specs.declared.place.Place.{Place}
use Rattle.table_terms.specs.declared.place.Place.TheVariants.{North, East, South, West}
use Rattle.table_terms.specs.declared.side.Side.{Side}
use Rattle.table_terms.specs.declared.side.Side.TheVariants.{NorthSouth, EastWest}
use Rattle.table_terms.specs.declared.suit.Suit.TheVariants.{Spades, Hearts, Diamonds, Clubs}
use Rattle.movement.specs.Movement.{most_tables}
use Rattle.disclosure_rules.specs.declared.phase.Phase.{Phase}
use Rattle.disclosure_rules.specs.declared.phase.Phase.TheVariants.{Running, Closed, Final}
use Rattle.scoring.specs.declared.standing.Standing.{Standing}
use Rattle.standings.specs.declared.row_result.RowResult.{RowResult}
use Rattle.standings.specs.declared.row_result.RowResult.TheVariants.{Played, Ruled}
use Rattle.session_report.specs.declared.board_report.BoardReport.{BoardReport}
use Rattle.session_report.specs.declared.player.Player.{Player}
use Rattle.session_report.specs.declared.report.Report.{Report}
use Rattle.session_report.specs.declared.result_row.ResultRow.{ResultRow}
use Rattle.text_writer.specs.Hundredths.{hundredths_text}
use Rattle.text_writer.specs.Markup.{escaped}
use Rattle.report_texts.specs.Terms.{text_or_empty, first_player, second_player, player_name, player_number}
use Rattle.report_texts.specs.Terms.{row_contract, row_declarer, row_tricks, row_score, percent_text, place_text}

-- ---- elements

-- an element with a text of the program's own, on a line of its own
abbrev pub element : List ℕ → List ℕ → List ℕ
element name text = concat (codes "<" ∷ name ∷ codes ">" ∷ text ∷ codes "</" ∷ name ∷ codes ">\n" ∷ [])

-- an element with a text from people
abbrev pub people_element : List ℕ → List ℕ → List ℕ
people_element name text = element name (escaped text)

-- ---- participants

-- own: a number that no other pair has: pairs that are named EW are counted on from the most tables
abbrev pub number_on : Side → ℕ → ℕ
number_on NorthSouth number = number
number_on EastWest number = most_tables + number

abbrev pub pair_number : Pair → List ℕ
pair_number pair = decimal (number_on pair.side pair.number)

abbrev pub player_element : Option Player → List ℕ
player_element player =
    concat (codes "<PLAYER>\n"
    ∷ people_element (codes "PLAYER_NAME") (player_name player)
    ∷ people_element (codes "NATIONAL_ID_NUMBER") (player_number player)
    ∷ codes "</PLAYER>\n"
    ∷ [])

abbrev pub pair_element : Report → Standing → List ℕ
pair_element report standing =
    concat (codes "<PAIR>\n"
    ∷ element (codes "PAIR_NUMBER") (pair_number standing.pair)
    ∷ element (codes "DIRECTION") (side_text standing.pair.side)
    ∷ element (codes "PLACE") (place_text report.ranking standing)
    ∷ element (codes "TOTAL_SCORE") (hundredths_text standing.earned)
    ∷ element (codes "PERCENTAGE") (percent_text standing.earned standing.tops)
    ∷ player_element (first_player report.players standing.pair)
    ∷ player_element (second_player report.players standing.pair)
    ∷ codes "</PAIR>\n"
    ∷ [])

-- ---- boards

-- own: the score of a line; of a ruling an `A` and the two percentages, as `A60-40`
abbrev pub line_score : RowResult → List ℕ
line_score (Played outcome score points) = row_score (Played outcome score points)
line_score (Ruled north_south east_west) =
    concat (codes "A" ∷ decimal north_south ∷ codes "-" ∷ decimal east_west ∷ [])

abbrev pub line_contract : RowResult → List ℕ
line_contract (Played outcome score points) = row_contract (Played outcome score points)
line_contract (Ruled north_south east_west) = []

abbrev pub traveller_line : ResultRow → List ℕ
traveller_line row =
    concat (codes "<TRAVELLER_LINE>\n"
    ∷ element (codes "NS_PAIR_NUMBER") (pair_number row.row.north_south)
    ∷ element (codes "EW_PAIR_NUMBER") (pair_number row.row.east_west)
    ∷ element (codes "CONTRACT") (line_contract row.row.result)
    ∷ element (codes "PLAYED_BY") (row_declarer row.row.result)
    ∷ element (codes "TRICKS") (row_tricks row.row.result)
    ∷ element (codes "SCORE") (line_score row.row.result)
    ∷ element (codes "NS_MATCH_POINTS") (hundredths_text row.earning.for_north_south)
    ∷ element (codes "EW_MATCH_POINTS") (hundredths_text row.earning.for_east_west)
    ∷ codes "</TRAVELLER_LINE>\n"
    ∷ [])

abbrev pub board_element : Report → BoardReport → List ℕ
board_element report board =
    concat (codes "<BOARD>\n"
    ∷ element (codes "BOARD_NUMBER") (decimal board.number)
    ∷ concat (map (λ (row : ResultRow). traveller_line row) board.rows)
    ∷ codes "</BOARD>\n"
    ∷ [])

-- ---- hands

abbrev pub direction_text : Place → List ℕ
direction_text North = codes "North"
direction_text East = codes "East"
direction_text South = codes "South"
direction_text West = codes "West"

abbrev pub hand_element : Place → Cards → List ℕ
hand_element place cards =
    concat (codes "<HAND>\n"
    ∷ element (codes "DIRECTION") (direction_text place)
    ∷ element (codes "CLUBS") (holding_text cards Clubs)
    ∷ element (codes "DIAMONDS") (holding_text cards Diamonds)
    ∷ element (codes "HEARTS") (holding_text cards Hearts)
    ∷ element (codes "SPADES") (holding_text cards Spades)
    ∷ codes "</HAND>\n"
    ∷ [])

abbrev pub hands_element : Report → BoardReport → List ℕ
hands_element report board =
    concat (codes "<BOARD>\n"
    ∷ element (codes "BOARD_NUMBER") (decimal board.number)
    ∷ hand_element North board.deal.north
    ∷ hand_element East board.deal.east
    ∷ hand_element South board.deal.south
    ∷ hand_element West board.deal.west
    ∷ codes "</BOARD>\n"
    ∷ [])

-- ---- the whole

-- a day as 27/11/2026; another text stays
abbrev pub slashed_date : List ℕ → List ℕ
slashed_date date =
    if length date == 10
    then concat (drop 8 date ∷ codes "/" ∷ take 2 (drop 5 date) ∷ codes "/" ∷ take 4 date ∷ []) else date

-- what is said before the title of a session whose results aren't final
abbrev pub phase_mark : Phase → List ℕ
phase_mark Running = codes "NOT FINAL, boards are still being played: "
phase_mark Closed = codes "NOT FINAL, scores may still be corrected: "
phase_mark Final = []

abbrev pub description_element : Report → List ℕ → List ℕ
description_element report title =
    concat (codes "<EVENT_DESCRIPTION>"
    ∷ phase_mark report.phase
    ∷ escaped title
    ∷ codes " (version "
    ∷ decimal report.version
    ∷ codes ")</EVENT_DESCRIPTION>\n"
    ∷ [])

abbrev pub event_element : Report → List ℕ
event_element report =
    concat (codes "<EVENT EVENT_TYPE=\"MP_PAIRS\">\n"
    ∷ description_element report (text_or_empty report.title)
    ∷ people_element (codes "DATE") (slashed_date (text_or_empty report.date))
    ∷ codes "<PARTICIPANTS>\n"
    ∷ concat (map (pair_element report) report.ranking)
    ∷ codes "</PARTICIPANTS>\n"
    ∷ concat (map (board_element report) report.boards)
    ∷ codes "</EVENT>\n"
    ∷ [])

unfoldable pub usebio_text : Report → List ℕ
usebio_text report =
    concat (codes "<?xml version=\"1.0\" encoding=\"UTF-8\"?>\n<USEBIO Version=\"1.2\">\n<CLUB>\n"
    ∷ people_element (codes "CLUB_NAME") (text_or_empty report.title)
    ∷ codes "</CLUB>\n"
    ∷ event_element report
    ∷ codes "<HANDSET>\n"
    ∷ concat (map (hands_element report) report.boards)
    ∷ codes "</HANDSET>\n</USEBIO>\n"
    ∷ [])
