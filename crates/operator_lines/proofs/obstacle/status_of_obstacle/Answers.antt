use Rattle.std.proofs.Common.{sym}
use Rattle.operator_lines.proofs.obstacle.status_of_obstacle.Goals as goal

pub returns-clause-why : goal.returns-clause-why
returns-clause-why g c =
    (c.args.obstacle.now, sym c.tell_obstacle.ensures.status, c.tell_obstacle.ensures.told)
