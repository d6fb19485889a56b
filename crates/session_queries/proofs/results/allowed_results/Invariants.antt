use Rattle.std.proofs.Common.{◌≡◌, ◌≤◌, vec_len}
use Rattle.session_queries.specs.Results.{allowed_results}
use Rattle.session_queries.proofs.results.allowed_results.Given as goal

abbrev pub invariant-loop-below : goal.invariant-loop-below
invariant-loop-below l = record {
  so_far : l.results.items ≡ allowed_results l.state l.viewer l.board l.below;
  few : vec_len l.results ≤ l.below;
}
