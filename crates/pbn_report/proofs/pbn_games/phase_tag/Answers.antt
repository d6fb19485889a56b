use Rattle.pbn_report.proofs.pbn_games.phase_tag.Goals as goal

pub returns : goal.returns
returns c = c.tag.ensures _ c.phase_field.ensures
