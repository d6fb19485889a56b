use Rattle.std.proofs.Common.{◌≡◌, List, map, subst}
use Rattle.std.specs.Prelude.{IfOk}
use Rattle.std.specs.List.{concat}
use Rattle.pbn_export.specs.Tables.{row_text}
use Rattle.scoring.specs.declared.standing.Standing.{Standing}
use Rattle.pbn_report.specs.PbnText.{total_row}
use Rattle.pbn_report.proofs.pbn_games.total_table.Goals as goal

pub returns : goal.returns
returns c =
    let report = c.args.report.now in
    c.table.ensures (map (total_row report) report.ranking)
    (subst (λ (all : List Standing). IfOk c.total_rows.result (λ text. text.items ≡ concat (map row_text (map (total_row report) all))))
    c.as_slice.ensures c.total_rows.ensures)
