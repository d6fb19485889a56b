use Rattle.movement.proofs.ApartLemmas.{same_cell}
use Rattle.movement.proofs.laws.one_row_a_cell.Goals as goal

pub returns : goal.returns
returns c = same_cell
