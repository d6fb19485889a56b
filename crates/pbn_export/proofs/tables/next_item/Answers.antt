use Rattle.pbn_export.proofs.tables.next_item.Goals as goal

pub returns : goal.returns
returns c = λ text is.
    c.finish.ensures _ (c.part.ensures _ _ (c.text.ensures _ c.new.ensures) (c.first_item.ensures text is))
