use Rattle.report_texts.proofs.csv_tables.ResultLineWrittenReportResultRow.written.Goals as goal

pub returns : goal.returns
returns c =
    c.record.ensures _
    (c.part-15.ensures _ _
    (c.part-14.ensures _ _
    (c.part-13.ensures _ _
    (c.part-12.ensures _ _
    (c.part-11.ensures _ _
    (c.part-10.ensures _ _
    (c.part-9.ensures _ _
    (c.part-8.ensures _ _
    (c.part-7.ensures _ _
    (c.part-6.ensures _ _
    (c.part-5.ensures _ _
    (c.part-4.ensures _ _
    (c.part-3.ensures _ _
    (c.part-2.ensures _ _
    (c.part.ensures _ _
    c.new.ensures
    (c.bytes_of.ensures _ c.to_string.ensures.ok))
    (c.bytes_of-2.ensures _ c.to_string-2.ensures.ok))
    (c.bytes_of-3.ensures _ c.to_string-3.ensures.ok))
    c.pair_names.ensures)
    (c.bytes_of-4.ensures _ c.to_string-4.ensures.ok))
    c.pair_names-2.ensures)
    c.row_contract.ensures)
    c.row_declarer.ensures)
    c.row_tricks.ensures)
    c.row_score.ensures)
    c.earned_text.ensures)
    c.earned_text-2.ensures)
    c.earned_text-3.ensures)
    c.north_south_percent.ensures)
    c.east_west_percent.ensures)
