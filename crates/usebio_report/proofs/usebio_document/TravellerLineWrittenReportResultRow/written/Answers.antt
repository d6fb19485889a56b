use Rattle.usebio_report.proofs.usebio_document.TravellerLineWrittenReportResultRow.written.Goals as goal

pub returns : goal.returns
returns c =
    c.finish.ensures _
    (c.text-2.ensures _
    (c.part-8.ensures _ _
    (c.part-7.ensures _ _
    (c.part-6.ensures _ _
    (c.part-5.ensures _ _
    (c.part-4.ensures _ _
    (c.part-3.ensures _ _
    (c.part-2.ensures _ _
    (c.part.ensures _ _
    (c.text.ensures _
    c.new.ensures)
    (c.element.ensures _ c.pair_number.ensures))
    (c.element-2.ensures _ c.pair_number-2.ensures))
    (c.element-3.ensures _ c.line_contract.ensures))
    (c.element-4.ensures _ c.row_declarer.ensures))
    (c.element-5.ensures _ c.row_tricks.ensures))
    (c.element-6.ensures _ c.line_score.ensures))
    (c.element-7.ensures _ c.earned_text-north_south.ensures))
    (c.element-8.ensures _ c.earned_text-east_west.ensures)))
