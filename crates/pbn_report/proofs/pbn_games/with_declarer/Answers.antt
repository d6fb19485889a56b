use Rattle.pbn_report.proofs.pbn_games.with_declarer.Goals as goal

pub returns : goal.returns
returns c = λ parts has.
    c.part-5.ensures _ _
    (c.part-4.ensures _ _
    (c.part-3.ensures _ _
    (c.part-2.ensures _ _
    (c.part.ensures _ _ has c.optimum_row.ensures)
    c.optimum_row-2.ensures)
    c.optimum_row-3.ensures)
    c.optimum_row-4.ensures)
    c.optimum_row-5.ensures
