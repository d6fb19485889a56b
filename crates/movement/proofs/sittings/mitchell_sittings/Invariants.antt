use Rattle.movement.proofs.MadeSoFarLemmas.{IsSoFar, IsBefore, IsAtTables}
use Rattle.movement.proofs.sittings.mitchell_sittings.Given as goal

-- what is kept are the rows of the tables so far, and of the next one those of the rounds so far
abbrev pub invariant-loop-round : goal.invariant-loop-round
invariant-loop-round l = IsSoFar l.section l.sittings (IsBefore l.table l.round)

abbrev pub invariant-loop-table : goal.invariant-loop-table
invariant-loop-table l = IsSoFar l.section l.sittings (IsAtTables l.table)
