use Rattle.double_dummy.proofs.RunLemmas.{none_in}
use Rattle.double_dummy.proofs.SureLemmas.{alone_in, of_suit}
use Rattle.double_dummy.proofs.masters.lone.Goals as goal

pub returns-clause-among : goal.returns-clause-among
returns-clause-among c card held =
    (of_suit c.args.mine c.of_suit-2.result c.args.suit card c.of_suit-2.ensures held).0

pub returns-clause-alone : goal.returns-clause-alone
returns-clause-alone c =
    alone_in c.args.mine c.args.others c.of_suit-2.result c.of_suit.result c.args.suit c.of_suit-2.ensures
    c.of_suit.ensures (c.is_empty.ensures.0 c.if-not-is_empty.false)

pub returns-then-not-is_empty-clause-among : goal.returns-then-not-is_empty-clause-among
returns-then-not-is_empty-clause-among c card held = absurd (none_in c.new.result card c.new.ensures held)

pub returns-then-not-is_empty-clause-alone : goal.returns-then-not-is_empty-clause-alone
returns-then-not-is_empty-clause-alone c card other held = absurd (none_in c.new.result card c.new.ensures held)
