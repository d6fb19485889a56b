use Rattle.double_dummy_laws.proofs.WinnerLemmas.{both_of}
use Rattle.double_dummy.proofs.SureLemmas.{of_suit}
use Rattle.double_dummy.proofs.masters.entry_of.Goals as goal

pub returns-clause-held : goal.returns-clause-held
returns-clause-held c =
    (of_suit c.args.masters c.of_suit-held.result c.args.suit c.top.result c.of_suit-held.ensures
    (c.top.ensures c.in_ok-lowest.ensures.some)).0

pub returns-clause-own : goal.returns-clause-own
returns-clause-own c =
    let own = of_suit c.args.mine c.of_suit.result c.args.suit c.in_ok-_own._own c.of_suit.ensures
    c.in_ok-_own.ensures.some in
    let theirs = of_suit c.args.masters c.of_suit-held.result c.args.suit c.top.result c.of_suit-held.ensures
    (c.top.ensures c.in_ok-lowest.ensures.some) in
    (c.in_ok-_own._own, (own.0, both_of c.args.suit c.in_ok-_own._own c.top.result own.1 theirs.1))
