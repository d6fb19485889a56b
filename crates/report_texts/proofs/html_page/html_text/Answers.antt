use Rattle.report_texts.specs.HtmlText.{html_text}
use Rattle.report_texts.proofs.html_page.html_text.Goals as goal

pub returns : goal.returns
unfolding html_text
returns c =
    c.finish.ensures _
    (c.text-2.ensures _
    (c.part-3.ensures _ _
    (c.text.ensures _
    (c.part-2.ensures _ _
    (c.part.ensures _ _
    c.new.ensures
    c.page_head.ensures)
    c.ranking_table.ensures))
    c.board_sections.ensures))
