use Rattle.usebio_report.proofs.usebio_document.escaped_element.Goals as goal

pub returns : goal.returns
returns c =
    c.finish.ensures _
    (c.text-6.ensures _
    (c.text-5.ensures _
    (c.text-4.ensures _
    (c.escaped.ensures _
    (c.text-3.ensures _
    (c.text-2.ensures _
    (c.text.ensures _
    c.new.ensures)))))))
