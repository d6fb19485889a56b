use Rattle.report_texts.proofs.html_page.pair_cells.Goals as goal

pub returns : goal.returns
returns c =
    c.finish.ensures _
    (c.part-2.ensures _ _
    (c.part.ensures _ _
    c.new.ensures
    (c.table_cell.ensures _ (c.bytes_of.ensures _ c.to_string.ensures.ok)))
    (c.name_cell.ensures _ c.pair_names-names.ensures))
