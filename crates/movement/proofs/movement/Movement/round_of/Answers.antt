use Rattle.movement.proofs.CellLemmas.{cell_in_range}
use Rattle.movement.proofs.KeptLemmas.{played_in_round}
use Rattle.movement.proofs.movement.Movement.round_of.Goals as goal

pub returns-clause-round : goal.returns-clause-round
returns-clause-round c =
    played_in_round c.args.self.now c.played.ensures.section c.args.cell c.played.result c.played.ensures.row

pub returns-clause-range : goal.returns-clause-range
returns-clause-range c = cell_in_range c.args.self.now c.args.cell c.played.ensures.section c.requires
