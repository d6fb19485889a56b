use Rattle.std.proofs.Common.{◌≡◌, [], map, sym, ap, ◌∙◌, subst}
use Rattle.std.proofs.lemmas.List.{take_all}
use Rattle.movement.specs.Movement.{IsCell}
use Rattle.standings.specs.declared.table_result.TableResult.{TableResult}
use Rattle.standings.specs.Traveller.{traveller_row, traveller_rows}
use Rattle.standings.proofs.EachLemmas.{next_made}
use Rattle.standings.proofs.traveller.traveller_rows.Goals as goal

pub traveller_row-row-requires-clause-cell : goal.traveller_row-row-requires-clause-cell
traveller_row-row-requires-clause-cell c =
    subst (λ (found : TableResult). IsCell c.args.movement.now found.cell) (sym c.found-item.is)
    (c.requires.cells c.loop-found.found-index c.found-item.result c.loop-found-test.true)

pub loop-found-init : goal.loop-found-init
loop-found-init c = c.in_ok-rows.ensures.items

pub loop-found-preserved : goal.loop-found-preserved
loop-found-preserved c =
    let l = c.loop-found in
    let items : c.deref.result.now ≡ c.in_ok-scores.scores.items = cc in
    next_made (traveller_row c.args.movement.now c.args.vulnerability c.in_ok-scores.scores.items) [] c.args.results.now
    l.found-index c.found-item.result
    l.rows.items c.push_copy.new.items.items c.traveller_row-row.result
    l.invariant c.loop-found-test.true c.found-item.is
    (c.traveller_row-row.ensures ∙ ap (λ scores. traveller_row c.args.movement.now c.args.vulnerability scores
    c.found-item.result) items) c.in_ok-push_copy.ensures

pub returns : goal.returns
unfolding traveller_rows
returns c =
    let l = c.loop-found in
    l.invariant
    ∙ (ap (λ found. map (traveller_row c.args.movement.now c.args.vulnerability c.in_ok-scores.scores.items) found)
    (take_all l.found-index c.args.results.now c.loop-found-test.false)
    ∙ ap (λ scores. map (traveller_row c.args.movement.now c.args.vulnerability scores) c.args.results.now)
    c.in_ok-scores.ensures.scores)
