use Rattle.report_texts.proofs.html_page.tricks_row.Goals as goal

pub returns : goal.returns
returns c =
    c.finish.ensures _
    (c.text-3.ensures _
    (c.part-5.ensures _ _
    (c.part-4.ensures _ _
    (c.part-3.ensures _ _
    (c.part-2.ensures _ _
    (c.part.ensures _ _
    (c.text-2.ensures _
    (c.string.ensures _ _
    (c.text.ensures _
    c.new.ensures)
    c.to_string.ensures.ok))
    (c.table_cell.ensures _ c.tricks_field.ensures))
    (c.table_cell-2.ensures _ c.tricks_field-2.ensures))
    (c.table_cell-3.ensures _ c.tricks_field-3.ensures))
    (c.table_cell-4.ensures _ c.tricks_field-4.ensures))
    (c.table_cell-5.ensures _ c.tricks_field-5.ensures)))
