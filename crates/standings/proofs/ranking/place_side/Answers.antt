use Rattle.std.proofs.Common.{◌++◌, map, sym, ap, ◌∙◌}
use Rattle.movement.specs.Movement.{most_tables}
use Rattle.standings.specs.Ranking.{placed, ranked, standing_of}
use Rattle.standings.proofs.RankingLemmas.{side_more, side_same, no_pairs}
use Rattle.standings.proofs.ranking.place_side.Goals as goal
use Rattle.standings.proofs.ranking.place_side.Goals.{then-has_pair+in_ok-place, else-has_pair}

pub loop-before-init : goal.loop-before-init
loop-before-init c others start =
    start ∙ sym (ap (λ pairs. ranked (map (standing_of c.args.earnings.now) (pairs ++ others)))
    (no_pairs c.args.movement.now c.args.side _))

pub loop-before-preserved : goal.loop-before-preserved
loop-before-preserved c others start =
    let section = c.args.movement.now in
    let before = c.loop-before.before in
    elim c.if-has_pair.branch [
      | then-has_pair+in_ok-place w ↦
          (λ i. (w.standings-is i).items) ∙ (w.in_ok-place.ensures
          ∙ ((λ i. placed (w.standing_of.ensures.standing i) (c.loop-before.invariant others start i))
          ∙ side_more c.args.earnings.now section c.args.side most_tables before others
          c.loop-before-test.true (sym c.has_pair.ensures ∙ w.if-has_pair.true)))
      | else-has_pair w ↦
          (λ i. (w.standings-is i).items) ∙ (c.loop-before.invariant others start
          ∙ ap (λ pairs. ranked (map (standing_of c.args.earnings.now) (pairs ++ others)))
          (side_same section c.args.side most_tables before c.loop-before-test.true
          (sym c.has_pair.ensures ∙ w.if-has_pair.false)))
    ]
