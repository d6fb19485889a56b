-- What every form of a report writes alike: names, contracts, points and percentages.
use Rattle.std.specs.Prelude.{ℕ, ◌+◌, ◌*◌, ◌/◌, List, [], ◌∷◌, Option, Some, None, if◌then◌else◌, codes, nat_eq, count_by}
use Rattle.std.specs.Fmt.{decimal, signed_decimal}
use Rattle.std.specs.List.{concat, find}
use Rattle.table_terms.specs.declared.pair.Pair.{Pair}
use Rattle.table_terms.specs.declared.place.Place.{Place}
use Rattle.table_terms.specs.declared.place.Place.TheVariants.{North, East, South, West}
use Rattle.table_terms.specs.declared.side.Side.{Side}
use Rattle.table_terms.specs.declared.side.Side.TheVariants.{NorthSouth, EastWest}
use Rattle.table_terms.specs.declared.strain.Strain.{Strain}
use Rattle.table_terms.specs.declared.strain.Strain.TheVariants as strain
use Rattle.table_terms.specs.Place.{place_letter}
use Rattle.scoring.specs.declared.contract.Contract.{Contract}
use Rattle.scoring.specs.declared.doubling.Doubling.{Doubling}
use Rattle.scoring.specs.declared.doubling.Doubling.TheVariants.{Undoubled, Doubled, Redoubled}
use Rattle.scoring.specs.declared.outcome.Outcome.{Outcome}
use Rattle.scoring.specs.declared.outcome.Outcome.TheVariants as outcome
use Rattle.scoring.specs.declared.standing.Standing.{Standing}
use Rattle.standings.specs.Order.{has_higher_percentage}
use Rattle.standings.specs.declared.row_result.RowResult.{RowResult}
use Rattle.standings.specs.declared.row_result.RowResult.TheVariants.{Played, Ruled}
use Rattle.disclosure_rules.specs.declared.phase.Phase.{Phase}
use Rattle.disclosure_rules.specs.declared.phase.Phase.TheVariants.{Running, Closed, Final}
use Rattle.disclosure_rules.specs.declared.seat.Seat.{Seat}
use Rattle.session_state.specs.Seats.{same_seat}
use Rattle.session_report.specs.declared.player.Player.{Player}
use Rattle.session_report.specs.declared.result_row.ResultRow.{ResultRow}
use Rattle.text_writer.specs.Hundredths.{hundredths_text}

-- a text, or the empty one where there is none
abbrev pub text_or_empty : Option (List ℕ) → List ℕ
text_or_empty None = []
text_or_empty (Some text) = text

-- how far the session has come
abbrev pub phase_text : Phase → List ℕ
phase_text Running = codes "running"
phase_text Closed = codes "closed"
phase_text Final = codes "final"

-- ---- players

-- who sits at a place of a pair, if somebody does
abbrev pub player_in : List Player → Seat → Option Player
player_in players seat = find (λ (player : Player). same_seat player.seat seat) players

-- the two places of a pair
abbrev pub first_place : Side → Place
first_place NorthSouth = North
first_place EastWest = East

abbrev pub second_place : Side → Place
second_place NorthSouth = South
second_place EastWest = West

abbrev pub first_player : List Player → Pair → Option Player
first_player players pair = player_in players (record { pair = pair; place = first_place pair.side })

abbrev pub second_player : List Player → Pair → Option Player
second_player players pair = player_in players (record { pair = pair; place = second_place pair.side })

-- the name to show, or the one to sign in by where there is none
abbrev pub name_told : List ℕ → Option (List ℕ) → List ℕ
name_told name None = name
name_told name (Some shown) = shown

-- a player's name, and the empty text where nobody sits there
abbrev pub player_name : Option Player → List ℕ
player_name None = []
player_name (Some player) = name_told player.name player.shown

-- a player's number as a member, and the empty text where none is known
abbrev pub player_number : Option Player → List ℕ
player_number None = []
player_number (Some player) = text_or_empty player.number

-- the names of two partners, with `&` between them where there are two
abbrev pub names_by : Option Player → Option Player → List ℕ
names_by None second = player_name second
names_by (Some first) None = player_name (Some first)
names_by (Some first) (Some second) =
    concat (player_name (Some first) ∷ codes " & " ∷ player_name (Some second) ∷ [])

-- the names of a pair
abbrev pub pair_names : List Player → Pair → List ℕ
pair_names players pair = names_by (first_player players pair) (second_player players pair)

-- ---- results

-- `S`, `H`, `D`, `C` or `NT`
abbrev pub strain_text : Strain → List ℕ
strain_text strain.Spades = codes "S"
strain_text strain.Hearts = codes "H"
strain_text strain.Diamonds = codes "D"
strain_text strain.Clubs = codes "C"
strain_text strain.NoTrump = codes "NT"

-- an `X` for a double, two for a redouble
abbrev pub doubling_text : Doubling → List ℕ
doubling_text Undoubled = []
doubling_text Doubled = codes "X"
doubling_text Redoubled = codes "XX"

-- the contract without its declarer, as `4SX`
abbrev pub contract_text : Contract → List ℕ
contract_text contract =
    concat (decimal contract.level ∷ strain_text contract.strain ∷ doubling_text contract.doubling ∷ [])

-- the contract of an outcome, and `Pass` where all four players passed
abbrev pub outcome_contract : Outcome → List ℕ
outcome_contract outcome.PassedOut = codes "Pass"
outcome_contract (outcome.Played contract tricks) = contract_text contract

-- who declared, and how many tricks declarer's side won
abbrev pub outcome_declarer : Outcome → List ℕ
outcome_declarer outcome.PassedOut = []
outcome_declarer (outcome.Played contract tricks) = place_letter contract.declarer ∷ []

abbrev pub outcome_tricks : Outcome → List ℕ
outcome_tricks outcome.PassedOut = []
outcome_tricks (outcome.Played contract tricks) = decimal tricks

-- the same of a row: a ruling has no contract and no score
abbrev pub row_contract : RowResult → List ℕ
row_contract (Played outcome score points) = outcome_contract outcome
row_contract (Ruled north_south east_west) = codes "Ruled"

abbrev pub row_declarer : RowResult → List ℕ
row_declarer (Played outcome score points) = outcome_declarer outcome
row_declarer (Ruled north_south east_west) = []

abbrev pub row_tricks : RowResult → List ℕ
row_tricks (Played outcome score points) = outcome_tricks outcome
row_tricks (Ruled north_south east_west) = []

-- North-South's score
abbrev pub row_score : RowResult → List ℕ
row_score (Played outcome score points) = signed_decimal score
row_score (Ruled north_south east_west) = []

-- ---- points and percentages

-- own: what was earned of a top in percent, with two digits behind the point, a half rounded up; the empty text where
-- nothing could be earned
abbrev pub percent_text : ℕ → ℕ → List ℕ
percent_text earned top = if nat_eq top 0 then [] else hundredths_text ((20000 * earned + top) / (2 * top))

-- North-South's percentage of a top, and East-West's: those of a ruling are given
abbrev pub north_south_percent : ResultRow → RowResult → List ℕ
north_south_percent row (Played outcome score points) =
    percent_text row.earning.for_north_south row.earning.top
north_south_percent row (Ruled north_south east_west) = hundredths_text (100 * north_south)

abbrev pub east_west_percent : ResultRow → RowResult → List ℕ
east_west_percent row (Played outcome score points) =
    percent_text row.earning.for_east_west row.earning.top
east_west_percent row (Ruled north_south east_west) = hundredths_text (100 * east_west)

-- own: the place of a pair, from 1: one more than those that earned a greater part, so that equal parts share a place.
-- Who could earn nothing has none
abbrev pub place_text : List Standing → Standing → List ℕ
place_text ranking standing =
    if nat_eq standing.tops 0 then []
    else decimal (count_by (λ other. has_higher_percentage other standing) ranking + 1)
