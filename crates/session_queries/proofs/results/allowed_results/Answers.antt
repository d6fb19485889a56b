use Rattle.std.proofs.Common.{rules, [], ◌++◌, sym, ◌∙◌}
use Rattle.std.specs.List.{cons_option}
use Rattle.session_queries.specs.Results.{allowed_results}
use Rattle.session_queries.proofs.ResultLemmas.{allowed_more}
use Rattle.session_queries.proofs.results.allowed_results.Goals as goal

pub loop-below-init : goal.loop-below-init
unfolding allowed_results
loop-below-init c = record { so_far = c.in_ok-results.ensures.items; few = search rules }

pub loop-below-preserved : goal.loop-below-preserved
loop-below-preserved c = record {
  so_far = c.in_ok-push_found.ensures.items
      ∙ ((λ i. c.loop-below.invariant.so_far i ++ cons_option (c.allowed_result.ensures i) [])
      ∙ sym (allowed_more c.args.state.now c.args.viewer.now c.args.board c.loop-below.below));
  few = search rules;
}
