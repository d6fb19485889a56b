use Rattle.std.proofs.Common.{◌≡◌, ℕ, List, subst}
use Rattle.std.specs.Prelude.{IfOk}
use Rattle.pbn_export.specs.Tables.{row_text}
use Rattle.pbn_report.specs.PbnText.{score_row}
use Rattle.pbn_report.proofs.PbnLemmas.{rows_listed}
use Rattle.pbn_report.proofs.pbn_games.score_rows.Goals as goal

pub returns : goal.returns
returns c =
    subst (λ (all : List ℕ). IfOk c.written_list.result (λ text. text.items ≡ all))
    (rows_listed row_text (score_row c.args.report.now) c.args.rows.now) c.written_list.ensures
