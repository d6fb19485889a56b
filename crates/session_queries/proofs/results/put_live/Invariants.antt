use Rattle.std.proofs.Common.{◌≡◌, ◌≤◌, vec_len, vec_capacity}
use Rattle.std.specs.List.{filter_map, range_with_len}
use Rattle.session_queries.specs.Results.{live_result}
use Rattle.session_queries.proofs.results.put_live.Given as goal

abbrev pub invariant-loop-below : goal.invariant-loop-below
invariant-loop-below l = record {
  so_far : l.results.items ≡ filter_map (live_result l.state l.board) (range_with_len 1 l.below);
  few : vec_len l.results ≤ l.below;
  room : 16 ≤ vec_capacity l.results;
}
