use Rattle.std.proofs.Common.{◌-◌}
use Rattle.position_patterns.proofs.holders.Holders.suit_pattern.Given as goal
use Rattle.position_patterns.proofs.RankLemmas.{IsSoFar}

abbrev pub invariant-loop-below : goal.invariant-loop-below
invariant-loop-below l = IsSoFar l.self l.suit l.below l.owners l.lengths

abbrev pub decreases-loop-below : goal.decreases-loop-below
decreases-loop-below l = 13 - l.below
