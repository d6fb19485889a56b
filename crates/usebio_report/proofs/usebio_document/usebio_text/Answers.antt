use Rattle.usebio_report.specs.UsebioText.{usebio_text}
use Rattle.usebio_report.proofs.usebio_document.usebio_text.Goals as goal

pub returns : goal.returns
unfolding usebio_text
returns c =
    c.finish.ensures _
    (c.text-4.ensures _
    (c.part-3.ensures _ _
    (c.text-3.ensures _
    (c.part-2.ensures _ _
    (c.text-2.ensures _
    (c.part.ensures _ _
    (c.text.ensures _
    c.new.ensures)
    (c.people_element.ensures _ c.notice_text.ensures)))
    c.event_element.ensures))
    c.all_hands.ensures))
