-- What a parse of the program's words comes to.
use Rattle.std.proofs.Common.{◌≡◌, refl, subst, Bool, true, false, List}
use Rattle.std.specs.Prelude.{Result, Ok, Err, IfOk, MatchResult}
use Rattle.clap.specs.Words.{App, FailsBy, HasKind, HasMatchesOf, Text, fault_of, is_simple, is_simple_and_free}
use Rattle.clap.specs.declared.error.Error.{Error}
use Rattle.clap.specs.declared.parser.matches.ArgMatches.{ArgMatches}
use Rattle.clap.proofs.OnLiterals.{clap_on_literals}
use Rattle.server_words.specs.CommandLine.{command_line, line_for, needs_files, prepare_line, with_session_words, with_notice_words, with_movement_words, with_movement_numbers, with_prepared_files}
use Rattle.server_words.specs.Words.{IsReadFrom, faults_in}

-- `clap` says exactly what comes of this command line
pub is_known : (needed : Bool) → is_simple (command_line needed) ≡ true
unfolding clap_on_literals prepare_line with_session_words with_notice_words with_movement_words with_movement_numbers with_prepared_files
is_known true = refl
is_known false = refl

pub is_known_to_fail : (needed : Bool) → is_simple_and_free (command_line needed) ≡ true
unfolding clap_on_literals prepare_line with_session_words with_notice_words with_movement_words with_movement_numbers with_prepared_files
is_known_to_fail true = refl
is_known_to_fail false = refl

pub parsed : (result : Result ArgMatches Error) (words : List Text) → IfOk result (HasMatchesOf (line_for words) words)
    → FailsBy (fault_of (line_for words) words) result → MatchResult result (IsReadFrom words) (HasKind (faults_in words))
parsed (Ok matches) words has none = (none, (has (is_known (needs_files words))).1)
parsed (Err error) words has kinds = kinds

-- the same of a command that is this one
pub parsed_by : (app : App) (result : Result ArgMatches Error) (words : List Text) → app ≡ line_for words
    → IfOk result (HasMatchesOf app words) → (is_simple_and_free app ≡ true → FailsBy (fault_of app words) result)
    → MatchResult result (IsReadFrom words) (HasKind (faults_in words))
parsed_by app result words same has kinds =
    parsed result words (subst (λ (a : App). IfOk result (HasMatchesOf a words)) same has)
    (subst (λ (a : App). is_simple_and_free a ≡ true → FailsBy (fault_of a words) result) same kinds
    (is_known_to_fail (needs_files words)))
