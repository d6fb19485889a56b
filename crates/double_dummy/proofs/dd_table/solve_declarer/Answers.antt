use Rattle.std.proofs.Common.{◌∙◌, ap}
use Rattle.double_dummy.proofs.dd_table.solve_declarer.Goals as goal
use Rattle.cards.specs.DoubleDummy.{double_dummy, tricks_for}

pub returns-clause-tricks : goal.returns-clause-tricks
returns-clause-tricks c =
    c.tricks_for-2.ensures
    ∙ (λ i. tricks_for (c.side-side.ensures i)
    ((c.in-Ok.ensures.tricks ∙ ap double_dummy c.start-start.ensures) i))
