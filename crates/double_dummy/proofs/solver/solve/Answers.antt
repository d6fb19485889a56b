use Rattle.std.proofs.Common.{◌≡◌, sym, arith}
use Rattle.cards.specs.Play.{cards_left}
use Rattle.double_dummy.proofs.solver.solve.Goals as goal
use Rattle.double_dummy_laws.proofs.DoubleDummyLemmas.{nothing_left}

pub returns-then-tricks_left-eq0-clause-tricks : goal.returns-then-tricks_left-eq0-clause-tricks
returns-then-tricks_left-eq0-clause-tricks c =
    let quarter = c.tricks_left-tricks_left.ensures.quarter in
    let none : cards_left c.args.position.now ≡ 0 = omega arith in
    sym (nothing_left c.args.position.now none)

pub returns-clause-tricks : goal.returns-clause-tricks
returns-clause-tricks c = c.in-Ok-value.ensures.tricks
