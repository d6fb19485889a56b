use Rattle.scoring.proofs.RankingLemmas.{Ranks, ranks_from_comparisons, less_from_ranks, greater_from_ranks}
use Rattle.scoring.proofs.ranking.rank_order.Goals as goal

-- the five comparisons in turn rank the standings
ranked : (c : goal.After-then-4) → Ranks c.args.a c.args.b c.then-4.result
ranked c =
    rw (c.then-4.ensures, c.then-3.ensures, c.then-2.ensures, c.then.ensures)
    (ranks_from_comparisons c.args.a c.args.b _ _ _ _ _ c.percentage_order.ensures (cc) c.cmp-2.ensures c.cmp-3.ensures
    c.cmp-4.ensures)

pub returns-clause-less : goal.returns-clause-less
returns-clause-less c = less_from_ranks c.args.a c.args.b c.then-4.result (ranked c)

pub returns-clause-greater : goal.returns-clause-greater
returns-clause-greater c = greater_from_ranks c.args.a c.args.b c.then-4.result (ranked c)
