use Rattle.report_texts.proofs.html_page.hands_table.Goals as goal

pub returns : goal.returns
returns c =
    c.finish.ensures _
    (c.text-3.ensures _
    (c.part-4.ensures _ _
    (c.part-3.ensures _ _
    (c.part-2.ensures _ _
    (c.part.ensures _ _
    (c.text-2.ensures _
    (c.text.ensures _
    c.new.ensures))
    (rw c.hand.ensures.hand at c.hand_row.ensures))
    (rw c.hand-2.ensures.hand at c.hand_row-2.ensures))
    (rw c.hand-3.ensures.hand at c.hand_row-3.ensures))
    (rw c.hand-4.ensures.hand at c.hand_row-4.ensures)))
