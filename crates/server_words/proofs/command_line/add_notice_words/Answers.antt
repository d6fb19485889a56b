use Rattle.std.proofs.Common.{◌≡◌, codes, subst}
use Rattle.std.specs.Result.{OnOk}
use Rattle.clap.specs.Words.{App, app_of, with_rule}
use Rattle.server_words.specs.CommandLine.{option_rule, with_notice_words}
use Rattle.server_words.proofs.command_line.add_notice_words.Goals as goal

pub returns-clause-line : goal.returns-clause-line
unfolding with_notice_words
returns-clause-line c =
    subst (λ (line : App). OnOk c.add_option-2.result
    (app_of c.add_option-2.new.command ≡ with_rule (with_rule line (option_rule (codes "title"))) (option_rule (codes "date"))))
    c.in_ok-add_count.ensures.line
    (subst (λ (line : App). OnOk c.add_option-2.result
    (app_of c.add_option-2.new.command ≡ with_rule line (option_rule (codes "date"))))
    c.in_ok-add_option.ensures.line c.add_option-2.ensures.line)
