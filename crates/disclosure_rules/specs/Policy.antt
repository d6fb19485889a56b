-- The policy in its two editions: what each rule forbids, in the rules' order. The first rule that forbids a fact is
-- the one that is named. The second edition knows embargoes (rule 4) and commentators (rules 9 and 10).
--
-- own: the rules are this project's ("ours"). They keep what Law 16D asks of a player (no information from elsewhere
-- about a board that is still to be played) and what Law 76 asks of those who watch.
use Rattle.std.specs.Prelude.{ℕ, Bool, false, not, ◌&&◌, if◌then◌else◌, Option, Some, None, is_none, List, [], ◌∷◌}
use Rattle.std.specs.List.{find}
use Rattle.movement.specs.declared.cell.Cell.{Cell}
use Rattle.session_roles.specs.declared.edition.Edition.{Edition}
use Rattle.session_roles.specs.declared.edition.Edition.TheVariants.{First, Second}
use Rattle.session_roles.specs.declared.role.Role.{Role}
use Rattle.session_roles.specs.declared.role.Role.TheVariants.{Member, Spectator, Contestant, Director, Administrator}
use Rattle.session_roles.specs.declared.role.Role.TheVariants.{Commentator}
use Rattle.session_roles.specs.Edition.{is_second}
use Rattle.session_roles.specs.Role.{has}
use Rattle.disclosure_rules.specs.declared.fact.Fact.{Fact}
use Rattle.disclosure_rules.specs.declared.public.Public.{Public}
use Rattle.disclosure_rules.specs.declared.rule.Rule.{Rule}
use Rattle.disclosure_rules.specs.declared.rule.Rule.TheVariants.{NoAccount, NotAMember, AccountsAreClosed}
use Rattle.disclosure_rules.specs.declared.rule.Rule.TheVariants.{SessionIsEmbargoed, BoardIsHeld}
use Rattle.disclosure_rules.specs.declared.rule.Rule.TheVariants.{StillToPlay, OthersStillPlay}
use Rattle.disclosure_rules.specs.declared.rule.Rule.TheVariants.{NeitherContestantNorSpectator, BoardIsIncomplete}
use Rattle.disclosure_rules.specs.declared.rule.Rule.TheVariants.{AnalysisWaits, PlayWaits, ReasonIsForThePairs}
use Rattle.disclosure_rules.specs.declared.rule.Rule.TheVariants.{NoResult}
use Rattle.disclosure_rules.specs.declared.viewer.Viewer.{Viewer}
use Rattle.disclosure_rules.specs.Fact.{board_of_fact, cell_of_fact, is_accounts, is_analysed, is_of_play, is_reason}
use Rattle.disclosure_rules.specs.LiveCells.{is_live}
use Rattle.small_sets.specs.Numbers.{has_number}
use Rattle.disclosure_rules.specs.Phase.{is_running}
use Rattle.disclosure_rules.specs.Seating.{some_that, is_complete, plays_board, has_still_to_play, is_seated_at}

-- whether a user with these roles, or with no account, is authorized for a role
abbrev pub is_authorized : Option (List Role) → Role → Bool
is_authorized None role = false
is_authorized (Some roles) role = has roles role

-- whether the user is authorized for Contestant
abbrev pub is_contestant : Viewer → Bool
is_contestant viewer = is_authorized viewer.roles Contestant

-- whether the user may comment on boards before they are complete
abbrev pub comments : Public → Viewer → Bool
comments public viewer = is_second public.edition && is_authorized viewer.roles Commentator

-- whether the session is under embargo: in the first edition none is
abbrev pub is_embargoed : Public → Bool
is_embargoed public = is_second public.edition && public.embargo

-- what is guarded, from everybody but a director
abbrev pub guarded : {A : Type 0} → Viewer → Option A → Option A
guarded viewer secret = if is_authorized viewer.roles Director then None else secret

-- whether the fact belongs to a board that passes the test, and the user is no director
abbrev pub guarding : Viewer → Fact → (ℕ → Bool) → Bool
guarding viewer fact test = some_that (guarded viewer (board_of_fact fact)) test

-- whether the fact belongs to a table on a board that pass the test, and the user is no director
abbrev pub guarding_cell : Viewer → Fact → (Cell → Bool) → Bool
guarding_cell viewer fact test = some_that (guarded viewer (cell_of_fact fact)) test

-- whether a rule forbids the fact to the user: above each rule stands its number in the second edition, and in brackets
-- that in the first, where it differs
abbrev pub forbids : Rule → Public → Viewer → Fact → Bool
-- 1, ours: everything, where there is no such account
forbids NoAccount public viewer fact = is_none viewer.roles
-- 2, ours: everything, to who is not authorized for Member
forbids NotAMember public viewer fact = not (is_authorized viewer.roles Member)
-- 3, ours: the accounts, to who is neither an administrator nor a director
forbids AccountsAreClosed public viewer fact =
    is_accounts fact && (not (is_authorized viewer.roles Administrator) && not (is_authorized viewer.roles Director))
-- 4 (none), ours: what belongs to a board, while the session is under embargo
forbids SessionIsEmbargoed public viewer fact = guarding viewer fact (λ _. is_embargoed public)
-- 5 (4), ours: what belongs to a board that the director holds
forbids BoardIsHeld public viewer fact = guarding viewer fact (λ board. has_number public.held board)
-- 6 (5), Law 16D: what belongs to a board, to a contestant whose pair has still to play it
forbids StillToPlay public viewer fact =
    guarding viewer fact (λ board. is_contestant viewer && has_still_to_play public viewer board)
-- 7 (6), ours: what belongs to an incomplete board, to a contestant who doesn't play it, or has no seat
forbids OthersStillPlay public viewer fact =
    guarding viewer fact (λ board.
    is_contestant viewer && (not (plays_board public viewer board) && not (is_complete public board)))
-- 8 (7), ours: what belongs to a board, to who is neither a contestant nor a spectator
forbids NeitherContestantNorSpectator public viewer fact =
    guarding viewer fact (λ _. not (is_contestant viewer) && not (is_authorized viewer.roles Spectator))
-- 9 (8), Law 76: what belongs to an incomplete board, to who is no contestant and doesn't comment
forbids BoardIsIncomplete public viewer fact =
    guarding viewer fact (λ board.
    not (is_contestant viewer) && (not (comments public viewer) && not (is_complete public board)))
-- 10 (9), ours: the double-dummy value of an incomplete board, to who doesn't comment
forbids AnalysisWaits public viewer fact =
    guarding viewer fact (λ board.
    is_analysed fact && (not (comments public viewer) && not (is_complete public board)))
-- 11 (10), ours: how the cards were played at another table, while boards are being played
forbids PlayWaits public viewer fact =
    guarding_cell viewer fact (λ cell.
    is_of_play fact && (not (is_seated_at public viewer cell) && is_running public.phase))
-- 12 (11), ours: the reason of a ruling at another table
forbids ReasonIsForThePairs public viewer fact =
    guarding_cell viewer fact (λ cell. is_reason fact && not (is_seated_at public viewer cell))
-- 13 (12), ours: what belongs to a table that has no result
forbids NoResult public viewer fact = guarding_cell viewer fact (λ cell. not (is_live public.live cell))

-- the rules in their order
abbrev pub rules : List Rule
rules =
    NoAccount ∷ NotAMember ∷ AccountsAreClosed ∷ SessionIsEmbargoed ∷ BoardIsHeld ∷ StillToPlay
    ∷ OthersStillPlay ∷ NeitherContestantNorSpectator ∷ BoardIsIncomplete ∷ AnalysisWaits ∷ PlayWaits
    ∷ ReasonIsForThePairs ∷ NoResult ∷ []

-- a rule's place in this order, from 0
abbrev pub rule_place : Rule → ℕ
rule_place NoAccount = 0
rule_place NotAMember = 1
rule_place AccountsAreClosed = 2
rule_place SessionIsEmbargoed = 3
rule_place BoardIsHeld = 4
rule_place StillToPlay = 5
rule_place OthersStillPlay = 6
rule_place NeitherContestantNorSpectator = 7
rule_place BoardIsIncomplete = 8
rule_place AnalysisWaits = 9
rule_place PlayWaits = 10
rule_place ReasonIsForThePairs = 11
rule_place NoResult = 12

-- the rules' numbers: their places, from 1, among the rules that the edition has; 0 stands for none
abbrev pub rule_number : Edition → Rule → ℕ
rule_number First NoAccount = 1
rule_number First NotAMember = 2
rule_number First AccountsAreClosed = 3
rule_number First SessionIsEmbargoed = 0
rule_number First BoardIsHeld = 4
rule_number First StillToPlay = 5
rule_number First OthersStillPlay = 6
rule_number First NeitherContestantNorSpectator = 7
rule_number First BoardIsIncomplete = 8
rule_number First AnalysisWaits = 9
rule_number First PlayWaits = 10
rule_number First ReasonIsForThePairs = 11
rule_number First NoResult = 12
rule_number Second NoAccount = 1
rule_number Second NotAMember = 2
rule_number Second AccountsAreClosed = 3
rule_number Second SessionIsEmbargoed = 4
rule_number Second BoardIsHeld = 5
rule_number Second StillToPlay = 6
rule_number Second OthersStillPlay = 7
rule_number Second NeitherContestantNorSpectator = 8
rule_number Second BoardIsIncomplete = 9
rule_number Second AnalysisWaits = 10
rule_number Second PlayWaits = 11
rule_number Second ReasonIsForThePairs = 12
rule_number Second NoResult = 13

-- the first rule that forbids the fact, if one does
unfoldable pub first_rule : Public → Viewer → Fact → Option Rule
first_rule public viewer fact = find (λ rule. forbids rule public viewer fact) rules
