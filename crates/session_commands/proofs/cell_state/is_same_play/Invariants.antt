use Rattle.std.proofs.Common.{◌≡◌, drop}
use Rattle.session_commands.specs.CellState.{same_play}
use Rattle.session_commands.proofs.cell_state.is_same_play.Given as goal

abbrev pub invariant-loop-place : goal.invariant-loop-place
invariant-loop-place l = same_play l.cards l.other ≡ same_play (drop l.place l.cards) (drop l.place l.other)
