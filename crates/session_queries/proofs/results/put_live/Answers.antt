use Rattle.std.proofs.Common.{rules, [], ◌++◌, sym, ◌∙◌}
use Rattle.std.specs.List.{cons_option}
use Rattle.session_queries.proofs.LiveLemmas.{live_more}
use Rattle.session_queries.proofs.results.put_live.Goals as goal

pub loop-below-preserved : goal.loop-below-preserved
loop-below-preserved c = record {
  so_far = c.put_found.ensures.items
      ∙ ((λ i. c.loop-below.invariant.so_far i ++ cons_option (c.live_result.ensures i) [])
      ∙ sym (live_more c.args.state.now c.args.board c.loop-below.below));
  few = search rules;
  room = search rules;
}
