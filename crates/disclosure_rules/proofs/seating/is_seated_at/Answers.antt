use Rattle.std.proofs.Common.{refl}
use Rattle.disclosure_rules.proofs.SeatingLemmas.{seated_at_one, seated_not}
use Rattle.disclosure_rules.proofs.seating.is_seated_at.Goals as goal

pub returns-in-Some : goal.returns-in-Some
returns-in-Some c =
    let own = c.in-Some.ensures in
    seated_at_one c.args.public.now c.args.viewer.now c.in-Some.own own.seated c.args.cell own.board own.section

pub returns-in-None : goal.returns-in-None
returns-in-None c = seated_not c.args.public.now c.args.viewer.now c.args.cell.board c.in-None.ensures.none c.args.cell
    refl
