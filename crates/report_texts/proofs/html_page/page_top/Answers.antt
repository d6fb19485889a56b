use Rattle.report_texts.proofs.html_page.page_top.Goals as goal

pub returns : goal.returns
returns c =
    c.finish.ensures _
    (c.text-5.ensures _
    (c.escaped-2.ensures _
    (c.text-4.ensures _
    (c.text-3.ensures _
    (c.text-2.ensures _
    (c.escaped.ensures _
    (c.text.ensures _
    c.new.ensures)))))))
