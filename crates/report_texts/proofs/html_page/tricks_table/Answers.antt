use Rattle.report_texts.proofs.html_page.tricks_table.Goals as goal

pub returns : goal.returns
returns c =
    c.finish.ensures _
    (c.text-3.ensures _
    (c.part-4.ensures _ _
    (c.part-3.ensures _ _
    (c.part-2.ensures _ _
    (c.part.ensures _ _
    (c.text-2.ensures _
    (c.text.ensures _
    c.new.ensures))
    c.tricks_row.ensures)
    c.tricks_row-2.ensures)
    c.tricks_row-3.ensures)
    c.tricks_row-4.ensures))
