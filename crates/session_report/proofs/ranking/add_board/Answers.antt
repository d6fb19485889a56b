use Rattle.std.proofs.Common.{rules, ◌≡◌, ◌-◌, ◌++◌, sym, subst, ap, ◌∙◌}
use Rattle.std.specs.Prelude.{All, Some, slice_get}
use Rattle.movement.specs.Movement.{IsCell}
use Rattle.disclosure_rules.specs.declared.public.Public.{Public}
use Rattle.standings.specs.Ranking.{earnings_of}
use Rattle.standings.specs.declared.table_result.TableResult.{TableResult}
use Rattle.session_report.specs.Report.{earnings_marked}
use Rattle.session_report.proofs.ranking.add_board.Goals as goal

pub add_earnings-requires-clause-cells : goal.add_earnings-requires-clause-cells
add_earnings-requires-clause-cells c =
    subst (λ (p : Public). All (λ (found : TableResult). IsCell p.movement found.cell) c.deref.result.now)
    (sym c.public-public.ensures.public)
    (subst (All (λ (found : TableResult). IsCell c.args.state.now.public.movement found.cell))
    (sym c.deref.ensures.value)
    c.put_results.ensures.cells)

pub returns-clause-earnings : goal.returns-clause-earnings
returns-clause-earnings c =
    let state = c.args.state.now in
    let marks = c.marks-vulnerability.result in
    let marked : slice_get state.public.marks (c.args.number - 1) ≡ Some marks = search rules in
    c.in_ok-add_earnings.ensures.earnings
    ∙ ap (λ earned. c.args.earnings.now.items ++ earned)
    ((λ i. earnings_of (c.public-public.ensures.public i).movement marks.vulnerability
    ((c.deref.ensures.value ∙ c.put_results.ensures.results) i))
    ∙ sym (ap (earnings_marked state c.args.number) marked))
