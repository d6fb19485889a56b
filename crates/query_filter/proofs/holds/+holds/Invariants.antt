use Rattle.std.proofs.Common.{◌≡◌, drop}
use Rattle.query_filter.specs.Formula.{formulas}
use Rattle.query_filter.specs.Holds.{all_hold, any_holds}
use Rattle.query_filter.proofs.holds.+holds.Given as goal

abbrev pub invariant-all_hold-loop-member : goal.invariant-all_hold-loop-member
invariant-all_hold-loop-member l =
    all_hold (formulas l.members) l.facts ≡ all_hold (formulas (drop l.member-index l.members)) l.facts

abbrev pub invariant-any_holds-loop-member : goal.invariant-any_holds-loop-member
invariant-any_holds-loop-member l =
    any_holds (formulas l.members) l.facts ≡ any_holds (formulas (drop l.member-index l.members)) l.facts
