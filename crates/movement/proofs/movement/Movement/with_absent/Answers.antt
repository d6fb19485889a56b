use Rattle.std.proofs.Common.{ap, ◌∙◌}
use Rattle.movement.specs.Mitchell.{mitchell_section}
use Rattle.movement.proofs.movement.Movement.with_absent.Goals as goal

pub returns-in-Ok-clause-section : goal.returns-in-Ok-clause-section
returns-in-Ok-clause-section c = c.of_mitchell.ensures ∙ ap mitchell_section c.in-Ok.ensures.section
