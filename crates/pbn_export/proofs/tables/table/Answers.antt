use Rattle.pbn_export.proofs.tables.table.Goals as goal

pub returns : goal.returns
returns c = λ all is.
    c.finish.ensures _
    (c.part-2.ensures _ _ (c.part.ensures _ _ c.new.ensures (rw c.as_bytes.ensures.value at c.tag_line.ensures)) is)
