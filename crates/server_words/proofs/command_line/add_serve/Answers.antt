use Rattle.std.proofs.Common.{◌≡◌, ◌∙◌, false, codes, subst, ap, rules}
use Rattle.std.specs.Result.{OnOk}
use Rattle.clap.specs.Words.{App, app_of, new_app, with_rule, with_subcommand}
use Rattle.clap.specs.declared.builder.command.Command.TheViews.{out-Command}
use Rattle.server_words.specs.CommandLine.{with_files, with_counts, with_clients, port_rule}
use Rattle.server_words.proofs.command_line.add_serve.Goals as goal

pub returns-in-Ok : goal.returns-in-Ok
returns-in-Ok c =
    let begun : app_of c.about-serve.result ≡ new_app (codes "serve") = search rules in
    let local : (out-Command c.add_options-filled.new.command).has_globals ≡ false = search rules in
    let filled = c.in-Ok.ensures.line
    ∙ ap (λ line. with_clients (with_counts (with_rule (with_files c.args.needed line) port_rule))) begun in
    subst (λ (line : App). OnOk c.add_subcommand-added.result
    (app_of c.add_subcommand-added.new.command ≡ with_subcommand (app_of c.args.command.now) line.top))
    filled (c.add_subcommand-added.ensures local)
