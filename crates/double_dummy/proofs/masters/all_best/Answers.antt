use Rattle.double_dummy.proofs.SureLemmas.{among_both}
use Rattle.double_dummy.proofs.masters.all_best.Goals as goal

pub returns : goal.returns
returns c =
    among_both c.union.result c.union-2.result c.union-3.result c.args.masters c.union-3.ensures
    (among_both c.best-spades.result c.best-hearts.result c.union.result c.args.masters c.union.ensures
    c.best-spades.ensures c.best-hearts.ensures)
    (among_both c.best-diamonds.result c.best-clubs.result c.union-2.result c.args.masters c.union-2.ensures
    c.best-diamonds.ensures c.best-clubs.ensures)
