use Rattle.std.proofs.Common.{ℕ, ◌+◌, ◌<◌, Any}
use Rattle.movement.specs.Movement.{HasCell}
use Rattle.movement.specs.Sound.{Seats}
use Rattle.movement.proofs.movement.Movement.cell_of.Given as goal

-- the pair plays the board at none of the tables so far
abbrev pub invariant-loop-below : goal.invariant-loop-below
invariant-loop-below l = (k : ℕ) → k < l.below →
    ¬ Any (λ row. Seats row l.pair × HasCell l.self row (record { table = k + 1; board = l.board })) l.self.rows
