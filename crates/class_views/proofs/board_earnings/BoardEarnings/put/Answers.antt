use Rattle.std.proofs.Common.{◌≡◌, ◌-◌, rules, Some, All, slice_get, subst, sym, ap, ◌∙◌}
use Rattle.movement.specs.Movement.{IsCell}
use Rattle.disclosure_rules.specs.declared.public.Public.{Public}
use Rattle.standings.specs.declared.table_result.TableResult.{TableResult}
use Rattle.standings.specs.Ranking.{earnings_of}
use Rattle.class_views.specs.Totals.{earnings_on, earnings_with}
use Rattle.session_queries.specs.Results.{live_results}
use Rattle.class_views.proofs.board_earnings.BoardEarnings.put.Goals as goal

pub put_earnings-requires-clause-cells : goal.put_earnings-requires-clause-cells
put_earnings-requires-clause-cells c =
    subst (λ (p : Public). All (λ (found : TableResult). IsCell p.movement found.cell) c.deref.result.now)
    (sym c.public.ensures.public)
    (subst (All (λ (found : TableResult). IsCell c.args.state.now.public.movement found.cell))
    (sym c.deref.ensures.value) c.put_results.ensures.cells)

pub returns : goal.returns
unfolding earnings_on
returns c =
    let state = c.args.state.now in
    let marks = c.marks-vulnerability.result in
    let marked : slice_get state.public.marks (c.args.board - 1) ≡ Some marks = search rules in
    c.put_earnings.ensures.earnings
    ∙ ((λ i. earnings_of (c.public.ensures.public i).movement marks.vulnerability
    ((c.deref.ensures.value ∙ c.put_results.ensures.results) i))
    ∙ sym (ap (λ o. earnings_with state.public.movement o (live_results state c.args.board)) marked))
