use Rattle.std.proofs.Common.{arith, ◌++◌, [], sym, ap, ◌∙◌}
use Rattle.std.proofs.lemmas.List.{take_all}
use Rattle.std.specs.List.{cons_option}
use Rattle.standings.specs.declared.table_result.TableResult.{TableResult}
use Rattle.published_view.specs.Listing.{outcome_of, outcomes_of}
use Rattle.published_view.proofs.ListLemmas.{filter_map_more}
use Rattle.published_view.proofs.listing.outcomes_of.Goals as goal

pub loop-found-preserved : goal.loop-found-preserved
loop-found-preserved c =
    let results = c.args.results.now in
    let k = c.loop-found.found-index in
    c.in_ok-push_found.ensures.items
    ∙ ((λ i. c.loop-found.invariant i ++ cons_option
    ((c.outcome_of.ensures ∙ ap (λ (found : TableResult). outcome_of found.result) c.found-item.is) i) [])
    ∙ sym (filter_map_more (λ (found : TableResult). outcome_of found.result) results k c.found-item.result
    c.loop-found-test.true))

pub loop-found-smaller : goal.loop-found-smaller
loop-found-smaller c = omega (arith, c.loop-found-test.true)

pub returns : goal.returns
returns c =
    c.loop-found.invariant ∙ ap outcomes_of (take_all c.loop-found.found-index c.args.results.now
    (omega (arith, c.loop-found-test.false)))
