use Rattle.movement.proofs.MadeLemmas.{row_among}
use Rattle.movement.proofs.sittings.mitchell_row.Goals as goal

pub returns-clause-row : goal.returns-clause-row
returns-clause-row c =
    row_among c.args.section c.ew_at.ensures.section c.args.table c.args.round _ c.ew_at.result c.set_at.ensures
    c.ew_at.ensures.played c.requires.plays
