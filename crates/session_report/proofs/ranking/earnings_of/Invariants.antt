use Rattle.std.proofs.Common.{◌≡◌, ◌*◌, ◌≤◌, vec_len, vec_capacity}
use Rattle.std.specs.List.{flat_map, range_with_len}
use Rattle.session_report.specs.Report.{results_earn}
use Rattle.session_report.proofs.ranking.earnings_of.Given as goal

-- what the boards so far earn, and room for a board's results
abbrev pub invariant-loop-before : goal.invariant-loop-before
invariant-loop-before l = record {
  so_far : l.earnings.items ≡ flat_map (results_earn l.state) (range_with_len 1 l.before);
  few : vec_len l.earnings ≤ 16 * l.before;
  room : 16 ≤ vec_capacity l.results;
}
