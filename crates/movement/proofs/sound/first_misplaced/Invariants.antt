use Rattle.std.proofs.Common.{ℕ, ◌<◌}
use Rattle.movement.specs.Sound.{HasNoFault}
use Rattle.movement.proofs.sound.first_misplaced.Given as goal

-- no row so far has a fault
abbrev pub invariant-loop-place : goal.invariant-loop-place
invariant-loop-place l = (k : ℕ) → k < l.place → HasNoFault l.limits l.rows k
