use Rattle.std.proofs.Common.{rules, arith, ◌≡◌, ◌≢◌, below_more, get_or}
use Rattle.std.specs.declared.cmp.Ordering.TheVariants.{Less}
use Rattle.scoring.specs.declared.standing.Standing.{Standing}
use Rattle.scoring.specs.Ranking.{RanksBefore}
use Rattle.standings.proofs.RankingLemmas.{placed_at, ranks_here}
use Rattle.standings.proofs.ranking.place_among.Goals as goal

pub returns-then-eq-clause-place : goal.returns-then-eq-clause-place
returns-then-eq-clause-place c =
    let is : c.rank_order.result ≡ Less = search rules in
    placed_at c.args.standing c.args.standings.now c.loop-place.place (omega arith) c.loop-place.invariant
    (λ d below. ranks_here c.args.standing c.args.standings.now c.loop-place.place _ d below
    (c.rank_order.ensures.less.0 is))

pub loop-place-preserved : goal.loop-place-preserved
loop-place-preserved c =
    let isnt : c.rank_order.result ≢ Less = search rules in
    λ k d below.
    below_more (λ k. (d : Standing) → ¬ RanksBefore c.args.standing (get_or c.args.standings.now k d))
    c.loop-place.place
    (λ k before d. c.loop-place.invariant k d before)
    (λ d ranks. isnt (c.rank_order.ensures.less.1 (ranks_here c.args.standing c.args.standings.now c.loop-place.place d
    _ c.loop-place-test.true ranks)))
    k below d

pub returns-clause-place : goal.returns-clause-place
returns-clause-place c =
    placed_at c.args.standing c.args.standings.now _ (omega arith) (λ k d below. c.loop-place.invariant k d
    (omega arith)) (λ d below. absurd (omega arith))
