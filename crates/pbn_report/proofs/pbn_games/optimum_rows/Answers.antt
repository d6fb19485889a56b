use Rattle.pbn_report.proofs.pbn_games.optimum_rows.Goals as goal

pub returns : goal.returns
returns c =
    c.finish.ensures _
    (c.with_declarer.ensures _
    (c.with_declarer-east.ensures _
    (c.with_declarer-south.ensures _
    (c.with_declarer-north.ensures _ c.new.ensures))))
