use Rattle.std.proofs.Common.{[], ◌∷◌, ◌++◌, take, sym, ap, ◌∙◌}
use Rattle.session_report.specs.Report.{with_earnings}
use Rattle.session_report.proofs.ListLemmas.{beside_more}
use Rattle.session_report.proofs.boards.beside.Goals as goal

pub loop-place-preserved : goal.loop-place-preserved
loop-place-preserved c =
    let board = c.args.board in
    let rows = c.args.rows.now in
    let earnings = c.args.earnings.now in
    let k = c.loop-place.place in
    let row = c.row_at-row.result in
    let earning = c.earning_at-earning.result in
    let before = with_earnings board (take k rows) (take k earnings) in
    c.in_ok-push.ensures.items
    ∙ (ap (λ items. items ++ record { board = board; row = row; earning = earning } ∷ []) c.loop-place.invariant
    ∙ ((λ i. before ++ record {
      board = board;
      row = c.row_at-row.ensures row i;
      earning = c.earning_at-earning.ensures earning i;
    } ∷ [])
    ∙ sym (beside_more board rows earnings k row earning c.loop-place-test.true c.requires)))
