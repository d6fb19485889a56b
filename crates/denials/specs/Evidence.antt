-- What a denial says beside its rule: the board, and a table. Its user, who knows the public facts and the own roles
-- and seat, can see from them that the rule forbids.
--
-- own: what is named is this project's choice. It never depends on what the user may not see.
use Rattle.std.specs.Prelude.{ℕ, Bool, true, false, not, ◌&&◌, Option, Some, None, List, codes}
use Rattle.std.specs.List.{find, range_with_len}
use Rattle.std.specs.Option.{option_map, unwrap_or}
use Rattle.table_terms.specs.declared.pair.Pair.{Pair}
use Rattle.movement.specs.declared.cell.Cell.{Cell}
use Rattle.movement.specs.Movement.{Section, rows}
use Rattle.movement.specs.Schedule.{is_scheduled, plays}
use Rattle.disclosure_rules.specs.declared.viewer.Viewer.{Viewer}
use Rattle.disclosure_rules.specs.declared.fact.Fact.{Fact}
use Rattle.disclosure_rules.specs.declared.public.Public.{Public}
use Rattle.disclosure_rules.specs.declared.seat.Seat.{Seat}
use Rattle.disclosure_rules.specs.declared.rule.Rule.{Rule}
use Rattle.disclosure_rules.specs.declared.rule.Rule.TheVariants.{NoAccount, NotAMember, AccountsAreClosed}
use Rattle.disclosure_rules.specs.declared.rule.Rule.TheVariants.{SessionIsEmbargoed, BoardIsHeld}
use Rattle.disclosure_rules.specs.declared.rule.Rule.TheVariants.{StillToPlay, OthersStillPlay}
use Rattle.disclosure_rules.specs.declared.rule.Rule.TheVariants.{NeitherContestantNorSpectator, BoardIsIncomplete}
use Rattle.disclosure_rules.specs.declared.rule.Rule.TheVariants.{AnalysisWaits, PlayWaits, ReasonIsForThePairs}
use Rattle.disclosure_rules.specs.declared.rule.Rule.TheVariants.{NoResult}
use Rattle.disclosure_rules.specs.Fact.{board_of_fact, cell_of_fact}
use Rattle.disclosure_rules.specs.LiveCells.{is_live}
use Rattle.disclosure_rules.specs.Policy.{first_rule}
use Rattle.denials.specs.declared.denial.Denial.{Denial}

-- the table where a pair plays a board, or 0 where it doesn't play it
abbrev pub table_of_pair : Section → Pair → ℕ → ℕ
table_of_pair section pair board =
    unwrap_or (option_map (λ row. row.table) (find (plays section pair board) (rows section))) 0

-- the table where a user plays a board, or 0
abbrev pub own_table : Section → Option Seat → ℕ → ℕ
own_table section None board = 0
own_table section (Some seat) board = table_of_pair section seat.pair board

-- whether a result is awaited from a table on a board: the table is scheduled to play it and has no result on it
abbrev pub is_awaited : Section → List (List ℕ) → ℕ → ℕ → Bool
is_awaited section live board table =
    let cell : Cell = record { table = table; board = board } in
    is_scheduled section cell && not (is_live live cell)

-- the least table from which a result on a board is awaited, or 0 where there is none
unfoldable pub awaited_table : Section → List (List ℕ) → ℕ → ℕ
awaited_table section live board = unwrap_or (find (is_awaited section live board) (range_with_len 1 section.tables)) 0

-- the board that a fact belongs to, or 0
abbrev pub denied_board : Fact → ℕ
denied_board fact = unwrap_or (board_of_fact fact) 0

-- the table that a fact belongs to, or 0
abbrev pub denied_table : Fact → ℕ
denied_table fact = unwrap_or (option_map (λ cell. cell.table) (cell_of_fact fact)) 0

-- the board that each rule names: the first three are not about a board
abbrev pub board_named : Rule → Fact → ℕ
board_named NoAccount fact = 0
board_named NotAMember fact = 0
board_named AccountsAreClosed fact = 0
board_named SessionIsEmbargoed fact = denied_board fact
board_named BoardIsHeld fact = denied_board fact
board_named StillToPlay fact = denied_board fact
board_named OthersStillPlay fact = denied_board fact
board_named NeitherContestantNorSpectator fact = denied_board fact
board_named BoardIsIncomplete fact = denied_board fact
board_named AnalysisWaits fact = denied_board fact
board_named PlayWaits fact = denied_board fact
board_named ReasonIsForThePairs fact = denied_board fact
board_named NoResult fact = denied_board fact

-- the table that each rule names: the user's own, the least one that is awaited, or that of the fact
abbrev pub table_named : Rule → Public → Option Seat → Fact → ℕ
table_named NoAccount public seat fact = 0
table_named NotAMember public seat fact = 0
table_named AccountsAreClosed public seat fact = 0
table_named SessionIsEmbargoed public seat fact = 0
table_named BoardIsHeld public seat fact = 0
table_named StillToPlay public seat fact = own_table public.movement seat (denied_board fact)
table_named OthersStillPlay public seat fact = awaited_table public.movement public.live (denied_board fact)
table_named NeitherContestantNorSpectator public seat fact = 0
table_named BoardIsIncomplete public seat fact = awaited_table public.movement public.live (denied_board fact)
table_named AnalysisWaits public seat fact = awaited_table public.movement public.live (denied_board fact)
table_named PlayWaits public seat fact = denied_table fact
table_named ReasonIsForThePairs public seat fact = denied_table fact
table_named NoResult public seat fact = denied_table fact

-- whether a rule forbids until results are there
abbrev pub waits_for_results : Rule → Bool
waits_for_results NoAccount = false
waits_for_results NotAMember = false
waits_for_results AccountsAreClosed = false
waits_for_results SessionIsEmbargoed = false
waits_for_results BoardIsHeld = false
waits_for_results StillToPlay = true
waits_for_results OthersStillPlay = true
waits_for_results NeitherContestantNorSpectator = false
waits_for_results BoardIsIncomplete = true
waits_for_results AnalysisWaits = true
waits_for_results PlayWaits = false
waits_for_results ReasonIsForThePairs = false
waits_for_results NoResult = false

-- the denial of a fact by a rule, with its evidence, and with the edition in which the rule has its number
abbrev pub denial_by : Public → Option Seat → Fact → Rule → Denial
denial_by public seat fact rule = record {
  rule = rule;
  board = board_named rule fact;
  table = table_named rule public seat fact;
  edition = public.edition;
}

-- the denial of a fact by the first rule that forbids it, if one does
unfoldable pub denial_of : Public → Viewer → Fact → Option Denial
denial_of public viewer fact = option_map (denial_by public viewer.seat fact) (first_rule public viewer fact)

-- what a user is told
abbrev pub explanation : Rule → List ℕ
explanation NoAccount = codes "no such account"
explanation NotAMember = codes "not a member"
explanation AccountsAreClosed = codes "accounts are for administrators and directors"
explanation SessionIsEmbargoed = codes "the session is under embargo"
explanation BoardIsHeld = codes "the board is held"
explanation StillToPlay = codes "your pair has still to play this board"
explanation OthersStillPlay = codes "the board isn't complete and you don't play it"
explanation NeitherContestantNorSpectator = codes "neither a contestant nor a spectator"
explanation BoardIsIncomplete = codes "the board isn't complete"
explanation AnalysisWaits = codes "analysis waits until the board is complete"
explanation PlayWaits = codes "the play of others waits until the session is closed"
explanation ReasonIsForThePairs = codes "reasons are for the pairs concerned"
explanation NoResult = codes "there is no result here"
