use Rattle.std.proofs.Common.{arith, ◌++◌, [], sym, ap, ◌∙◌}
use Rattle.std.specs.List.{cons_option}
use Rattle.standings.specs.Traveller.{result_score}
use Rattle.standings.specs.declared.table_result.TableResult.{TableResult}
use Rattle.standings.proofs.EachLemmas.{filter_map_more}
use Rattle.standings.proofs.traveller.put_scores.Goals as goal

pub loop-found-preserved : goal.loop-found-preserved
loop-found-preserved c =
    let results = c.args.results.now in
    let k = c.loop-found.found-index in
    record {
      scores =
          c.put_found.ensures.items
          ∙ ((λ i. c.loop-found.invariant.scores i ++ cons_option
          ((c.result_score.ensures ∙ ap (λ (found : TableResult). result_score c.args.vulnerability found.result)
          c.found-item.is) i) [])
          ∙ sym (filter_map_more (λ (found : TableResult). result_score c.args.vulnerability found.result) results k
          c.found-item.result c.loop-found-test.true));
      few = omega (arith, c.put_found.ensures.few, c.loop-found.invariant.few);
      room = omega (arith, c.put_found.ensures.capacity, c.loop-found.invariant.room);
    }
