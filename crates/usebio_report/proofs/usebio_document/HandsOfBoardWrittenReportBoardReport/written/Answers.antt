use Rattle.usebio_report.proofs.usebio_document.HandsOfBoardWrittenReportBoardReport.written.Goals as goal

pub returns : goal.returns
returns c =
    c.finish.ensures _
    (c.text-2.ensures _
    (c.part-5.ensures _ _
    (c.part-4.ensures _ _
    (c.part-3.ensures _ _
    (c.part-2.ensures _ _
    (c.part.ensures _ _
    (c.text.ensures _
    c.new.ensures)
    (c.element.ensures _ (c.bytes_of-number.ensures _ c.to_string.ensures.ok)))
    (rw c.hand.ensures.hand at c.hand_element.ensures))
    (rw c.hand-2.ensures.hand at c.hand_element-2.ensures))
    (rw c.hand-3.ensures.hand at c.hand_element-3.ensures))
    (rw c.hand-4.ensures.hand at c.hand_element-4.ensures)))
