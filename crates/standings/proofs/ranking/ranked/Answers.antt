use Rattle.std.proofs.Common.{ap, ◌∙◌}
use Rattle.standings.specs.Ranking.{placed}
use Rattle.standings.proofs.RankingLemmas.{end_ranked, one_ranked}
use Rattle.standings.proofs.ranking.ranked.Goals as goal

pub loop-taken-init : goal.loop-taken-init
loop-taken-init c = c.in_ok-all.ensures.items ∙ end_ranked c.args.standings.now

pub loop-taken-preserved : goal.loop-taken-preserved
loop-taken-preserved c =
    c.in_ok-place.ensures
    ∙ (ap (placed c.from_the_end.result) c.loop-taken.invariant
    ∙ one_ranked c.args.standings.now c.loop-taken.taken c.from_the_end.result c.loop-taken-test.true
    (c.from_the_end.ensures c.from_the_end.result))
