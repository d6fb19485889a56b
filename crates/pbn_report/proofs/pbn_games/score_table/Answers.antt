use Rattle.std.proofs.Common.{◌≡◌, List, map, subst}
use Rattle.std.specs.Prelude.{IfOk}
use Rattle.std.specs.List.{concat}
use Rattle.pbn_export.specs.Tables.{row_text}
use Rattle.session_report.specs.declared.result_row.ResultRow.{ResultRow}
use Rattle.pbn_report.specs.PbnText.{score_row}
use Rattle.pbn_report.proofs.pbn_games.score_table.Goals as goal

pub returns : goal.returns
returns c =
    let report = c.args.report.now in
    c.table.ensures (map (score_row report) c.args.board.now.rows)
    (subst (λ (all : List ResultRow). IfOk c.score_rows.result (λ text. text.items ≡ concat (map row_text (map (score_row report) all))))
    c.as_slice.ensures c.score_rows.ensures)
