use Rattle.std.proofs.Common.{◌∙◌, ap, arith, sym}
use Rattle.std.specs.FinSet as set
use Rattle.double_dummy.proofs.RunLemmas.{none_in}
use Rattle.double_dummy.proofs.RunnerLemmas.{long_in}
use Rattle.double_dummy.proofs.SureLemmas.{of_suit}
use Rattle.double_dummy.proofs.masters.long.Goals as goal

pub returns-then-len-longest-clause-among : goal.returns-then-len-longest-clause-among
returns-then-len-longest-clause-among c card held = absurd (none_in c.new.result card c.new.ensures held)

pub returns-then-len-longest-clause-long : goal.returns-then-len-longest-clause-long
returns-then-len-longest-clause-long c card place held ne = absurd (none_in c.new.result card c.new.ensures held)

pub returns-clause-among : goal.returns-clause-among
returns-clause-among c card held =
    ap (λ s. set.contains s card) (sym c.hand.ensures.hand)
    ∙ (of_suit c.hand.result c.of_suit-2.result c.args.suit card c.of_suit-2.ensures held).0

pub returns-clause-long : goal.returns-clause-long
returns-clause-long c =
    long_in c.args.position.now c.args.holder c.hand.result c.of_suit-2.result c.args.named c.of_suit.result c.args.suit
    c.longest.result c.of_suit-2.ensures c.of_suit.ensures c.longest.ensures
    (omega (arith, c.if-len-longest.false, c.len.ensures.cards))
