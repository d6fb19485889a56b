use Rattle.usebio_report.proofs.usebio_document.description_element.Goals as goal

pub returns : goal.returns
returns c =
    c.finish.ensures _
    (c.text-4.ensures _
    (c.string.ensures _ _
    (c.text-3.ensures _
    (c.escaped.ensures _
    (rw c.phase_mark.ensures at (c.text-2.ensures _
    (c.text.ensures _
    c.new.ensures)))))
    c.to_string.ensures.ok))
