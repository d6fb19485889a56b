use Rattle.movement.proofs.MovementLemmas.{same_cell}
use Rattle.movement.proofs.laws.one_round_a_cell.Goals as goal

pub returns : goal.returns
returns c = same_cell
