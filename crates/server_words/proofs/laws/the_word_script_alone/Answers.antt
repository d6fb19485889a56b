use Rattle.std.proofs.Common.{refl, List, ℕ, [], ◌∷◌, ◌≡◌, codes, Some, option_map}
use Rattle.clap.proofs.OnLiterals.{clap_on_literals}
use Rattle.server_words.specs.CommandLine.{prepare_line, with_session_words, with_notice_words, with_movement_words, with_movement_numbers, with_prepared_files}
use Rattle.server_words.specs.Words.{faults_in, subcommand_in}
use Rattle.server_words.proofs.laws.the_word_script_alone.Goals as goal

no_fault : (name : List ℕ) → faults_in (name ∷ codes "script" ∷ []) ≡ []
unfolding clap_on_literals prepare_line with_session_words with_notice_words with_movement_words with_movement_numbers with_prepared_files
no_fault name = refl

named : (name : List ℕ) → option_map (λ p. p.0) (subcommand_in (name ∷ codes "script" ∷ [])) ≡ Some (codes "script")
unfolding clap_on_literals prepare_line with_session_words with_notice_words with_movement_words with_movement_numbers with_prepared_files
named name = refl

pub returns : goal.returns
returns c name = (no_fault name, named name)
