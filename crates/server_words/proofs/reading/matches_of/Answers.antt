use Rattle.std.proofs.Common.{◌≡◌, ap, ◌∙◌}
use Rattle.std.specs.Prelude.{map, string_bytes}
use Rattle.std.proofs.lemmas.Result.{IfOk-weaker}
use Rattle.clap.specs.Words.{app_of}
use Rattle.server_words.specs.CommandLine.{command_line, line_for}
use Rattle.server_words.proofs.ParseLemmas.{parsed_by}
use Rattle.server_words.proofs.reading.matches_of.Goals as goal

pub returns-in-Ok : goal.returns-in-Ok
returns-in-Ok c =
    let result = c.try_get_matches_from_mut.result in
    let words = map string_bytes c.args.words.now in
    let app = app_of c.add_subcommands.new.command in
    let same : app ≡ line_for words = c.in-Ok.ensures c.requires ∙ ap command_line c.need_files.ensures in
    parsed_by app result words same
    (IfOk-weaker result _ _ (λ matches parsed. parsed.2) c.try_get_matches_from_mut.ensures.ok)
    c.try_get_matches_from_mut.ensures.kinds
