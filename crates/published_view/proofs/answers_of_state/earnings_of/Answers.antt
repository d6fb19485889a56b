use Rattle.std.proofs.Common.{rules, ◌≡◌, ◌+◌, ◌++◌, sym, ap, ◌∙◌, arith}
use Rattle.std.specs.List.{flat_map, range_with_len}
use Rattle.movement.specs.Movement.{boards_of}
use Rattle.session_queries.specs.Shown.{shown}
use Rattle.published_view.specs.Answers.{board_earnings, all_earnings}
use Rattle.published_view.proofs.ListLemmas.{flat_map_range_more}
use Rattle.published_view.proofs.answers_of_state.earnings_of.Goals as goal

pub loop-before-preserved : goal.loop-before-preserved
loop-before-preserved c =
    let state = c.args.state.now in
    let section = state.public.movement in
    let items = shown state c.args.viewer.now in
    let before = c.loop-before.before in
    record {
      so_far = c.in_ok-add_board.ensures.earnings
          ∙ (ap (λ earnings. earnings ++ board_earnings section items (before + 1)) c.loop-before.invariant.so_far
          ∙ sym (flat_map_range_more (board_earnings section items) before));
      few = omega (arith, c.in_ok-add_board.ensures.few, c.loop-before.invariant.few);
    }

pub returns-clause-earnings : goal.returns-clause-earnings
unfolding all_earnings
returns-clause-earnings c =
    let state = c.args.state.now in
    let section = state.public.movement in
    let last : c.loop-before.before ≡ boards_of section = search rules in
    c.loop-before.invariant.so_far ∙ ap (λ n. flat_map (board_earnings section (shown state c.args.viewer.now))
    (range_with_len 1 n)) last
