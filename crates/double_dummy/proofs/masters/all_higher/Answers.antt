use Rattle.double_dummy.proofs.SureLemmas.{above_both, among_both}
use Rattle.double_dummy.proofs.masters.all_higher.Goals as goal

pub returns-clause-among : goal.returns-clause-among
returns-clause-among c =
    among_both c.union.result c.union-2.result c.union-3.result c.args.mine c.union-3.ensures
    (among_both c.higher-spades.result c.higher-hearts.result c.union.result c.args.mine c.union.ensures
    c.higher-spades.ensures.among c.higher-hearts.ensures.among)
    (among_both c.higher-diamonds.result c.higher-clubs.result c.union-2.result c.args.mine c.union-2.ensures
    c.higher-diamonds.ensures.among c.higher-clubs.ensures.among)

pub returns-clause-above : goal.returns-clause-above
returns-clause-above c =
    above_both c.union.result c.union-2.result c.union-3.result c.args.others c.union-3.ensures
    (above_both c.higher-spades.result c.higher-hearts.result c.union.result c.args.others c.union.ensures
    c.higher-spades.ensures.above c.higher-hearts.ensures.above)
    (above_both c.higher-diamonds.result c.higher-clubs.result c.union-2.result c.args.others c.union-2.ensures
    c.higher-diamonds.ensures.above c.higher-clubs.ensures.above)
