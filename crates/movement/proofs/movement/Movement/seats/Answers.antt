use Rattle.movement.proofs.KeptLemmas.{seated_at, unseated_at}
use Rattle.movement.proofs.movement.Movement.seats.Goals as goal

pub returns-in-Some : goal.returns-in-Some
returns-in-Some c =
    seated_at c.args.self.now c.sitting.ensures.section c.args.cell c.in-Some.sitting c.args.pair c.in-Some.ensures.some
    c.is_one_of.result c.is_one_of.ensures

pub returns-in-None : goal.returns-in-None
returns-in-None c = unseated_at c.args.self.now c.args.cell c.args.pair c.in-None.ensures.none
