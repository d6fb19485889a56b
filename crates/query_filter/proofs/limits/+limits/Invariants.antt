use Rattle.std.proofs.Common.{◌≡◌, drop}
use Rattle.query_filter.specs.Formula.{formulas}
use Rattle.query_filter.specs.Limits.{left_after_all}
use Rattle.query_filter.proofs.limits.+limits.Given as goal

abbrev pub invariant-atoms_left_of_all-loop-member : goal.invariant-atoms_left_of_all-loop-member
invariant-atoms_left_of_all-loop-member l =
    left_after_all l.depth l.atoms (formulas l.members) ≡ left_after_all l.depth l.left
    (formulas (drop l.member-index l.members))
