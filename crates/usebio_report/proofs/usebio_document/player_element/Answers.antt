use Rattle.usebio_report.proofs.usebio_document.player_element.Goals as goal

pub returns : goal.returns
returns c =
    c.finish.ensures _
    (c.text-2.ensures _
    (c.part-2.ensures _ _
    (c.part.ensures _ _
    (c.text.ensures _
    c.new.ensures)
    (c.people_element.ensures _ c.player_name.ensures))
    (c.people_element-2.ensures _ c.player_number.ensures)))
