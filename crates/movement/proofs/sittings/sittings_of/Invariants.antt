use Rattle.movement.proofs.FillLemmas.{IsFilled}
use Rattle.movement.proofs.sittings.sittings_of.Given as goal

-- what is kept are the rows so far whose pairs are there
abbrev pub invariant-loop-row : goal.invariant-loop-row
invariant-loop-row l = IsFilled l.fn.absent l.rows l.sittings l.row-index
