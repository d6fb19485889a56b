use Rattle.movement.proofs.CellLemmas.{cell_in_range}
use Rattle.movement.proofs.ScheduleTests.{any_as}
use Rattle.movement.proofs.movement.Movement.cell.Goals as goal

pub returns-in-Some-clause-range : goal.returns-in-Some-clause-range
returns-in-Some-clause-range c =
    cell_in_range c.args.self.now _ c.sitting.ensures.section
    (any_as _ _ _ (λ row played. played.has) c.in-Some.ensures.some)
