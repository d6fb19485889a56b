use Rattle.double_dummy.proofs.SureLemmas.{alone_both, among_both}
use Rattle.double_dummy.proofs.masters.all_lone.Goals as goal

pub returns-clause-among : goal.returns-clause-among
returns-clause-among c =
    among_both c.union.result c.union-2.result c.union-3.result c.args.mine c.union-3.ensures
    (among_both c.lone-spades.result c.lone-hearts.result c.union.result c.args.mine c.union.ensures
    c.lone-spades.ensures.among c.lone-hearts.ensures.among)
    (among_both c.lone-diamonds.result c.lone-clubs.result c.union-2.result c.args.mine c.union-2.ensures
    c.lone-diamonds.ensures.among c.lone-clubs.ensures.among)

pub returns-clause-alone : goal.returns-clause-alone
returns-clause-alone c =
    alone_both c.union.result c.union-2.result c.union-3.result c.args.others c.union-3.ensures
    (alone_both c.lone-spades.result c.lone-hearts.result c.union.result c.args.others c.union.ensures
    c.lone-spades.ensures.alone c.lone-hearts.ensures.alone)
    (alone_both c.lone-diamonds.result c.lone-clubs.result c.union-2.result c.args.others c.union-2.ensures
    c.lone-diamonds.ensures.alone c.lone-clubs.ensures.alone)
