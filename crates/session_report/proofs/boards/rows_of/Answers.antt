use Rattle.std.proofs.Common.{◌++◌, length, sym, ap, ◌∙◌}
use Rattle.standings.specs.Ranking.{earnings_of}
use Rattle.session_report.proofs.ListLemmas.{same_length}
use Rattle.session_report.proofs.boards.rows_of.Goals as goal

pub beside-requires : goal.beside-requires
beside-requires c =
    let movement = c.args.movement.now in
    let results = c.args.results.now in
    let earned = earnings_of movement c.args.vulnerability results in
    ap length (c.deref.ensures.value ∙ c.in_ok-rows.ensures)
    ∙ (same_length movement c.args.vulnerability results
    ∙ sym (ap length (c.deref-2.ensures.value
    ∙ (c.in_ok-add_earnings.ensures.earnings ∙ ap (λ old. old ++ earned) c.new-earnings.ensures.items))))
