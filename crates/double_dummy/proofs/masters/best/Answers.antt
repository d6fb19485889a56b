use Rattle.double_dummy.proofs.SureLemmas.{of_suit}
use Rattle.double_dummy.proofs.masters.best.Goals as goal

pub returns : goal.returns
returns c card held =
    (of_suit c.args.masters c.of_suit.result c.args.suit card c.of_suit.ensures (c.fewest.ensures card held)).0
