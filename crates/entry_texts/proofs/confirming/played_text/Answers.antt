use Rattle.std.proofs.Common.{ℕ, List, ◌++◌, string_bytes, ap, ◌∙◌}
use Rattle.scoring.specs.declared.outcome.Outcome.TheVariants.{Played}
use Rattle.command_writing.specs.ResultData.{written_outcome}
use Rattle.entry_texts.proofs.ConfirmLemmas.{around, ended_pieces}
use Rattle.entry_texts.proofs.confirming.played_text.Goals as goal

pub returns-clause-text : goal.returns-clause-text
returns-clause-text c =
    let board = c.args.cell.board in
    let table = c.args.cell.table in
    c.in_ok-write.ensures.bytes
    ∙ (ap (λ (s : List ℕ). s ++ around board table (string_bytes c.in_ok-result.result)) c.in_ok-text.ensures.bytes
    ∙ (ap (around board table) c.in_ok-result.ensures.text
    ∙ ended_pieces board table (written_outcome (Played c.args.contract c.args.tricks))))
