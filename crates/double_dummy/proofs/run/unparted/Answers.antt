use Rattle.double_dummy.proofs.RunLemmas.{of_stretch}
use Rattle.double_dummy.proofs.run.unparted.Goals as goal

pub returns-clause-among : goal.returns-clause-among
returns-clause-among c other held =
    (of_stretch c.args.cards c.of_suit-suited.result c.stretch.result c.common.result c.args.card other
    c.of_suit-suited.ensures c.common.ensures held).0

pub returns-clause-suit : goal.returns-clause-suit
returns-clause-suit c other held =
    (of_stretch c.args.cards c.of_suit-suited.result c.stretch.result c.common.result c.args.card other
    c.of_suit-suited.ensures c.common.ensures held).1

pub returns-clause-free : goal.returns-clause-free
returns-clause-free c other between held =
    let parts = of_stretch c.args.cards c.of_suit-suited.result c.stretch.result c.common.result c.args.card other
    c.of_suit-suited.ensures c.common.ensures held in
    c.stretch.ensures other between parts.1 parts.2
