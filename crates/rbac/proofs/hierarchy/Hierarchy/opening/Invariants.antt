use Rattle.std.proofs.Common.{take}
use Rattle.rbac.specs.Hierarchy.{IsClosure}
use Rattle.rbac.proofs.hierarchy.Hierarchy.opening.Given as goal

abbrev pub invariant-loop-pair : goal.invariant-loop-pair
invariant-loop-pair l = IsClosure (take l.pair-index l.pair-items) l.hierarchy.reached
