use Rattle.report_texts.proofs.csv_tables.marked_fields.Goals as goal

pub returns : goal.returns
returns c =
    (c.part-4.ensures _ _
    (c.part-3.ensures _ _
    (c.part-2.ensures _ _
    (c.part.ensures _ _
    c.new.ensures
    (c.bytes_of.ensures _ c.to_string.ensures.ok))
    (c.bytes_of-2.ensures _ c.to_string-2.ensures.ok))
    c.vulnerable_field.ensures)
    (c.bytes_of-3.ensures _ c.to_string-3.ensures.ok))
