use Rattle.report_texts.proofs.csv_tables.session_record.Goals as goal

pub returns : goal.returns
returns c =
    c.record.ensures _
    (c.part-4.ensures _ _
    (c.part-3.ensures _ _
    (c.part-2.ensures _ _
    (c.part.ensures _ _
    c.new.ensures
    c.notice_text.ensures)
    c.notice_text-2.ensures)
    c.phase_field.ensures)
    (c.bytes_of.ensures _ c.to_string.ensures.ok))
