use Rattle.std.proofs.Common.{◌≡◌, ◌*◌, ◌≤◌, vec_len}
use Rattle.std.specs.List.{flat_map, range_with_len}
use Rattle.session_queries.specs.Shown.{shown}
use Rattle.published_view.specs.Answers.{board_earnings}
use Rattle.published_view.proofs.answers_of_state.earnings_of.Given as goal

abbrev pub invariant-loop-before : goal.invariant-loop-before
invariant-loop-before l = record {
  so_far : l.earnings.items ≡ flat_map (board_earnings l.state.public.movement (shown l.state l.viewer))
      (range_with_len 1 l.before);
  few : vec_len l.earnings ≤ 16 * l.before;
}
