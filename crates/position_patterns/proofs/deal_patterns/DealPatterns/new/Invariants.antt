use Rattle.std.proofs.Common.{All}
use Rattle.position_patterns.proofs.deal_patterns.DealPatterns.new.Given as goal
use Rattle.position_patterns.specs.Remainder.{IsTrueRemainder}

abbrev pub invariant-masks : goal.invariant-masks
invariant-masks l = All (IsTrueRemainder l.whole) l.slots.items
