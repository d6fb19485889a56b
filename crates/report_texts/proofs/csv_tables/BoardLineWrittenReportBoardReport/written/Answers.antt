use Rattle.report_texts.proofs.csv_tables.BoardLineWrittenReportBoardReport.written.Goals as goal

pub returns : goal.returns
returns c =
    c.record.ensures _
    (c.with_declarer.ensures _
    (c.with_declarer-south.ensures _
    (c.with_declarer-east.ensures _ (c.with_declarer-north.ensures _ c.marked_fields-marked.ensures))))
