use Rattle.std.proofs.Common.{length, ◌-◌}
use Rattle.pbn_pieces.proofs.SplitLemmas.{Walks}
use Rattle.pbn_pieces.proofs.tag_text.quoted.Given as goal

abbrev pub invariant-loop-at : goal.invariant-loop-at
invariant-loop-at l = Walks l.bytes l.at

abbrev pub decreases-loop-at : goal.decreases-loop-at
decreases-loop-at l = length l.bytes - l.at
