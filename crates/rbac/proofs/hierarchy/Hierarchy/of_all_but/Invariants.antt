use Rattle.std.proofs.Common.{take}
use Rattle.rbac.specs.Inheritance.{without_pair}
use Rattle.rbac.specs.Hierarchy.{IsClosure}
use Rattle.rbac.proofs.hierarchy.Hierarchy.of_all_but.Given as goal

abbrev pub invariant-loop-pair : goal.invariant-loop-pair
invariant-loop-pair l = IsClosure (without_pair (take l.pair-index l.pairs) l.left_out) l.hierarchy.reached
