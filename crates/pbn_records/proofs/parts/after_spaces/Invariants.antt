use Rattle.std.proofs.Common.{◌≡◌, length}
use Rattle.pbn_records.specs.DealValue.{parts}
use Rattle.pbn_records.proofs.parts.after_spaces.Given as goal

abbrev pub invariant-loop-rest : goal.invariant-loop-rest
invariant-loop-rest l = parts l.rest ≡ parts l.text

abbrev pub decreases-loop-rest : goal.decreases-loop-rest
decreases-loop-rest l = length l.rest
