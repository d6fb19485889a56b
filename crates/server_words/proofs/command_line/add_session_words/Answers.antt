use Rattle.std.proofs.Common.{◌≡◌, codes, subst}
use Rattle.std.specs.Result.{OnOk}
use Rattle.clap.specs.Words.{App, app_of, with_rule}
use Rattle.server_words.specs.CommandLine.{default_option, with_session_words}
use Rattle.server_words.proofs.command_line.add_session_words.Goals as goal

pub returns-clause-line : goal.returns-clause-line
unfolding with_session_words
returns-clause-line c =
    subst (λ (line : App). OnOk c.add_default.result
    (app_of c.add_default.new.command ≡ with_rule line (default_option (codes "address") (codes "http://localhost:8000/"))))
    c.in_ok-add_notice_words.ensures.line c.add_default.ensures.line
