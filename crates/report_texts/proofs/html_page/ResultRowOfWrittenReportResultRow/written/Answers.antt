use Rattle.report_texts.proofs.html_page.ResultRowOfWrittenReportResultRow.written.Goals as goal

pub returns : goal.returns
returns c =
    c.finish.ensures _
    (c.text-2.ensures _
    (c.part-11.ensures _ _
    (c.part-10.ensures _ _
    (c.part-9.ensures _ _
    (c.part-8.ensures _ _
    (c.part-7.ensures _ _
    (c.part-6.ensures _ _
    (c.part-5.ensures _ _
    (c.part-4.ensures _ _
    (c.part-3.ensures _ _
    (c.part-2.ensures _ _
    (c.part.ensures _ _
    (c.text.ensures _
    c.new.ensures)
    (c.table_cell.ensures _ (c.bytes_of.ensures _ c.to_string.ensures.ok)))
    c.pair_cells.ensures)
    c.pair_cells-2.ensures)
    (c.table_cell-2.ensures _ c.row_contract.ensures))
    (c.table_cell-3.ensures _ c.row_declarer.ensures))
    (c.table_cell-4.ensures _ c.row_tricks.ensures))
    (c.table_cell-5.ensures _ c.row_score.ensures))
    (c.table_cell-6.ensures _ c.earned_text-north_south.ensures))
    (c.table_cell-7.ensures _ c.earned_text-east_west.ensures))
    (c.table_cell-8.ensures _ c.north_south_percent.ensures))
    (c.table_cell-9.ensures _ c.east_west_percent.ensures)))
