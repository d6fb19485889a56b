use Rattle.usebio_report.proofs.usebio_document.event_element.Goals as goal

pub returns : goal.returns
returns c =
    c.finish.ensures _
    (c.text-4.ensures _
    (c.part-4.ensures _ _
    (c.text-3.ensures _
    (c.part-3.ensures _ _
    (c.text-2.ensures _
    (c.part-2.ensures _ _
    (c.part.ensures _ _
    (c.text.ensures _
    c.new.ensures)
    (c.described.ensures _ c.notice_text-2.ensures))
    (c.people_element.ensures _ (c.slashed_part-date.ensures _ c.notice_text.ensures))))
    c.all_pairs.ensures))
    c.all_boards.ensures))
