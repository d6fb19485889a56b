use Rattle.pbn_report.proofs.pbn_games.BoardGameWrittenReportBoardReport.written.Goals as goal

pub returns : goal.returns
returns c =
    c.finish.ensures _
    (c.text.ensures _
    (c.part-18.ensures _ _
    (c.part-17.ensures _ _
    (c.part-16.ensures _ _
    (c.part-15.ensures _ _
    (c.part-14.ensures _ _
    (c.part-13.ensures _ _
    (c.part-12.ensures _ _
    (c.part-11.ensures _ _
    (c.part-10.ensures _ _
    (c.part-9.ensures _ _
    (c.part-8.ensures _ _
    (c.part-7.ensures _ _
    (c.part-6.ensures _ _
    (c.part-5.ensures _ _
    (c.part-4.ensures _ _
    (c.part-3.ensures _ _
    (c.part-2.ensures _ _
    (c.part.ensures _ _
    c.new.ensures
    (c.tag.ensures _ c.known_text.ensures))
    c.unknown_tag.ensures)
    (c.tag-2.ensures _ c.dotted_date.ensures))
    (c.tag-3.ensures _ (c.bytes_of.ensures _ c.to_string.ensures.ok)))
    c.unknown_tag-2.ensures)
    c.unknown_tag-3.ensures)
    c.unknown_tag-4.ensures)
    c.unknown_tag-5.ensures)
    (c.tag-4.ensures _ (c.bytes_of-2.ensures _ c.to_string-2.ensures.ok)))
    (c.tag-5.ensures _ c.vulnerable_value.ensures))
    (c.tag-6.ensures _ (c.bytes_of-3.ensures _ c.to_string-3.ensures.ok)))
    (c.tag-7.ensures _ c.copied_text.ensures))
    c.unknown_tag-6.ensures)
    c.unknown_tag-7.ensures)
    c.unknown_tag-8.ensures)
    c.optimum_table.ensures)
    c.score_table.ensures)
    c.phase_tag.ensures))
