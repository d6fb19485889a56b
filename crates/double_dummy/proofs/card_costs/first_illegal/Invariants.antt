use Rattle.std.proofs.Common.{◌≡◌, suc, drop}
use Rattle.double_dummy.proofs.card_costs.first_illegal.Given as goal
use Rattle.cards.specs.DoubleDummy.{first_illegal}

abbrev pub invariant-loop-i : goal.invariant-loop-i
invariant-loop-i l = first_illegal 1 l.start l.play ≡ first_illegal (suc l.i) l.position (drop l.i l.play)
