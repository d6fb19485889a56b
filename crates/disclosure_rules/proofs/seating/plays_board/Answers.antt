use Rattle.std.proofs.Common.{◌∙◌}
use Rattle.disclosure_rules.proofs.SeatingLemmas.{plays_where_found}
use Rattle.disclosure_rules.proofs.seating.plays_board.Goals as goal

pub returns : goal.returns
returns c =
    let own = c.own_cell.ensures in
    c.is_some.ensures ∙ plays_where_found c.args.public.now c.args.viewer.now c.args.board c.own_cell.result own.seated
    own.board own.none
