use Rattle.movement.proofs.CellLemmas.{cell_in_range}
use Rattle.movement.proofs.laws.cells_in_range.Goals as goal

pub returns : goal.returns
returns c = cell_in_range
