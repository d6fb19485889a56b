use Rattle.movement.proofs.MovementLemmas.{same_play}
use Rattle.movement.proofs.laws.one_cell_a_board.Goals as goal

pub returns : goal.returns
returns c = same_play
