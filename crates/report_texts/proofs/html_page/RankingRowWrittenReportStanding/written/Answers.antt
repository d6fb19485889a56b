use Rattle.report_texts.proofs.html_page.RankingRowWrittenReportStanding.written.Goals as goal

pub returns : goal.returns
returns c =
    c.finish.ensures _
    (c.text-2.ensures _
    (c.part-6.ensures _ _
    (c.part-5.ensures _ _
    (c.part-4.ensures _ _
    (c.part-3.ensures _ _
    (c.part-2.ensures _ _
    (c.part.ensures _ _
    (c.text.ensures _
    c.new.ensures)
    (c.table_cell.ensures _ c.place_text-place.ensures))
    (c.table_cell-2.ensures _ (c.bytes_of.ensures _ c.to_string.ensures.ok)))
    (c.name_cell.ensures _ c.pair_names-names.ensures))
    (c.table_cell-3.ensures _ c.total_text-points.ensures))
    (c.table_cell-4.ensures _ c.total_text-top.ensures))
    (c.table_cell-5.ensures _ c.percent_text-percentage.ensures)))
