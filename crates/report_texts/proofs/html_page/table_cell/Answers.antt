use Rattle.report_texts.proofs.html_page.table_cell.Goals as goal

pub returns : goal.returns
returns c = λ text is.
    c.finish.ensures _ (c.text-2.ensures _ (c.part.ensures _ text (c.text.ensures _ c.new.ensures) is))
