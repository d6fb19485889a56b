use Rattle.std.proofs.Common.{rules}
use Rattle.scoring.proofs.MatchpointLemmas.{held_in_sorted, units_from_sorted, moved_from_copy, units_more}
use Rattle.scoring.proofs.law78a.matchpoints.Goals as goal

pub units_among-requires-clause-held : goal.units_among-requires-clause-held
units_among-requires-clause-held c =
    held_in_sorted c.args.scores.now c.deref.result.now c.loop-score.score-index _ c.loop-score-test.true (search rules)
    (moved_from_copy _ _ _ _ c.in_ok-sorted.ensures.items c.sort_unstable.ensures.permutation c.deref.ensures.value)

pub loop-score-preserved : goal.loop-score-preserved
loop-score-preserved c =
    let moved = moved_from_copy _ _ _ _ c.in_ok-sorted.ensures.items c.sort_unstable.ensures.permutation
    c.deref.ensures.value in
    let here = units_from_sorted c.args.scores.now c.deref.result.now c.loop-score.score-index _ c.units_among.result
    c.loop-score-test.true (search rules) moved c.units_among.ensures in
    record {
      counted = search rules;
      units_so_far = units_more c.args.scores.now c.loop-score.points.items _ c.loop-score.score-index
          c.units_among.result (search rules) c.loop-score.invariant.units_so_far here c.in_ok-push.ensures.items;
    }
