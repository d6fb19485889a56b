use Rattle.report_texts.proofs.html_page.ranking_table.Goals as goal

pub returns : goal.returns
returns c =
    c.finish.ensures _
    (c.text-3.ensures _
    (c.part.ensures _ _
    (c.text-2.ensures _
    (c.text.ensures _
    c.new.ensures))
    c.ranking_rows.ensures))
