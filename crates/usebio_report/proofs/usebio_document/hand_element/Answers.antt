use Rattle.usebio_report.proofs.usebio_document.hand_element.Goals as goal

pub returns : goal.returns
returns c =
    c.finish.ensures _
    (c.text-2.ensures _
    (c.part-5.ensures _ _
    (c.part-4.ensures _ _
    (c.part-3.ensures _ _
    (c.part-2.ensures _ _
    (c.part.ensures _ _
    (c.text.ensures _
    c.new.ensures)
    (c.element.ensures _ c.direction_value.ensures))
    c.suit_element.ensures)
    c.suit_element-2.ensures)
    c.suit_element-3.ensures)
    c.suit_element-4.ensures))
