use Rattle.pbn_report.proofs.pbn_games.totals_game.Goals as goal

pub returns : goal.returns
returns c =
    c.finish.ensures _
    (c.text.ensures _
    (c.part-5.ensures _ _
    (c.part-4.ensures _ _
    (c.part-3.ensures _ _
    (c.part-2.ensures _ _
    (c.part.ensures _ _
    c.new.ensures
    (c.tag.ensures _ c.known_text.ensures))
    (c.tag-2.ensures _ c.dotted_date.ensures))
    c.phase_tag.ensures)
    (c.tag-3.ensures _ (c.bytes_of-version.ensures _ c.to_string.ensures.ok)))
    c.total_table.ensures))
