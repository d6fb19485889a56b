use Rattle.std.proofs.Common.{rules, ◌≡◌, ◌+◌, ◌++◌, sym, ap, ◌∙◌, arith}
use Rattle.std.specs.List.{flat_map, range_with_len}
use Rattle.movement.specs.Movement.{boards_of}
use Rattle.session_report.specs.Report.{results_earn, session_earnings}
use Rattle.session_report.proofs.ListLemmas.{flat_map_range_more}
use Rattle.session_report.proofs.ranking.earnings_of.Goals as goal

pub loop-before-preserved : goal.loop-before-preserved
loop-before-preserved c =
    let state = c.args.state.now in
    let before = c.loop-before.before in
    record {
      so_far = c.in_ok-add_board.ensures.earnings
          ∙ (ap (λ earnings. earnings ++ results_earn state (before + 1)) c.loop-before.invariant.so_far
          ∙ sym (flat_map_range_more (results_earn state) before));
      few = omega (arith, c.in_ok-add_board.ensures.few, c.loop-before.invariant.few);
      room = c.in_ok-add_board.ensures.room;
    }

pub returns-clause-earnings : goal.returns-clause-earnings
unfolding session_earnings
returns-clause-earnings c =
    let state = c.args.state.now in
    let section = state.public.movement in
    let last : c.loop-before.before ≡ boards_of section = search rules in
    c.loop-before.invariant.so_far ∙ ap (λ n. flat_map (results_earn state) (range_with_len 1 n)) last
