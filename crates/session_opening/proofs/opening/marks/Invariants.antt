use Rattle.std.proofs.Common.{◌≡◌, take}
use Rattle.session_opening.specs.Opening.{opening_marks}
use Rattle.session_opening.proofs.opening.marks.Given as goal

abbrev pub invariant-loop-place : goal.invariant-loop-place
invariant-loop-place l = l.marks ≡ opening_marks (take l.place l.config.boards)
