use Rattle.std.proofs.Common.{ap, ◌∙◌}
use Rattle.std.specs.Prelude.{not}
use Rattle.disclosure_rules.proofs.SeatingLemmas.{still_where_seated, still_not}
use Rattle.disclosure_rules.proofs.seating.has_still_to_play.Goals as goal

pub returns-in-Some : goal.returns-in-Some
returns-in-Some c =
    let own = c.in-Some.ensures in
    ap not c.contains.ensures
    ∙ still_where_seated c.args.public.now c.args.viewer.now c.in-Some.cell own.seated c.args.board own.board
    own.section

pub returns-in-None : goal.returns-in-None
returns-in-None c = still_not c.args.public.now c.args.viewer.now c.args.board c.in-None.ensures.none
