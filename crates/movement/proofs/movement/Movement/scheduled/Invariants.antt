use Rattle.movement.proofs.TablesLemmas.{IsSoFar}
use Rattle.movement.proofs.movement.Movement.scheduled.Given as goal

abbrev pub invariant-loop-table : goal.invariant-loop-table
invariant-loop-table l = IsSoFar l.self l.board l.scheduled l.table
