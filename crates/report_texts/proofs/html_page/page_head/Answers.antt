use Rattle.report_texts.proofs.html_page.page_head.Goals as goal

pub returns : goal.returns
returns c =
    c.finish.ensures _
    (c.part-2.ensures _ _
    (c.part.ensures _ _
    c.new.ensures
    (c.titled_top.ensures _ c.page_title.ensures))
    (c.dated_notice.ensures _ c.notice_text.ensures))
