use Rattle.report_texts.proofs.html_page.BoardSectionWrittenReportBoardReport.written.Goals as goal

pub returns : goal.returns
returns c =
    c.finish.ensures _
    (c.text-8.ensures _
    (c.part-4.ensures _ _
    (c.part-3.ensures _ _
    (c.text-7.ensures _
    (c.part-2.ensures _ _
    (c.part.ensures _ _
    (c.text-6.ensures _
    (rw c.text-4.ensures at (c.text-5.ensures _
    (c.text-3.ensures _
    (c.string-2.ensures _ _
    (c.text-2.ensures _
    (c.string.ensures _ _
    (c.text.ensures _
    c.new.ensures)
    c.to_string.ensures.ok))
    c.to_string-2.ensures.ok)))))
    c.hands_table.ensures)
    c.tricks_part.ensures))
    c.result_heads.ensures)
    c.result_rows.ensures))
