use Rattle.std.proofs.Common.{rules, arith, ◌≡◌, ◌+◌, [], ◌∷◌, ◌++◌, length, sym, ap, subst, ◌∙◌}
use Rattle.std.specs.List.{cons_option, filter_map, range_with_len}
use Rattle.movement.specs.Movement.{boards_of}
use Rattle.session_report.specs.Report.{AreReported, reported_board, reported_boards}
use Rattle.session_report.proofs.ListLemmas.{filter_map_range_more}
use Rattle.session_report.proofs.NumberLemmas.{numbered_more, one_longer}
use Rattle.session_report.proofs.boards.boards_of.Goals as goal

pub loop-before-preserved : goal.loop-before-preserved
loop-before-preserved c =
    let reported = reported_board c.args.state.now in
    let before = c.loop-before.before in
    let boards = c.loop-before.boards.items in
    let board = c.in_ok-board.board in
    record {
      boards =
          c.in_ok-push.ensures.items
          ∙ (ap (λ items. items ++ board ∷ []) c.loop-before.invariant.boards
          ∙ (ap (λ o. filter_map reported (range_with_len 1 before) ++ cons_option o []) (sym c.in_ok-board.ensures.board)
          ∙ sym (filter_map_range_more reported before)));
      numbered = subst (AreReported 1) (sym c.in_ok-push.ensures.items)
          (numbered_more 1 boards board c.loop-before.invariant.numbered
          (c.in_ok-board.ensures.number ∙ omega (arith, c.loop-before.invariant.many)) c.in_ok-board.ensures.deal);
      many = ap length c.in_ok-push.ensures.items ∙ (one_longer boards board ∙ ap (λ n. n + 1) c.loop-before.invariant.many);
    }

pub returns-clause-boards : goal.returns-clause-boards
unfolding reported_boards
returns-clause-boards c =
    let state = c.args.state.now in
    let last : c.loop-before.before ≡ boards_of state.public.movement = search rules in
    c.loop-before.invariant.boards ∙ ap (λ n. filter_map (reported_board state) (range_with_len 1 n)) last
