use Rattle.std.proofs.Common.{ap, replicate}
use Rattle.movement.specs.Movement.{most_boards}
use Rattle.disclosure_rules.proofs.live_cells.LiveCells.new.Goals as goal

pub returns : goal.returns
returns c = ap (replicate most_boards) c.new.ensures
