use Rattle.usebio_report.proofs.usebio_document.BoardElementWrittenReportBoardReport.written.Goals as goal

pub returns : goal.returns
returns c =
    c.finish.ensures _
    (c.text-2.ensures _
    (c.part-2.ensures _ _
    (c.part.ensures _ _
    (c.text.ensures _
    c.new.ensures)
    (c.element.ensures _ (c.bytes_of-number.ensures _ c.to_string.ensures.ok)))
    c.board_lines.ensures))
