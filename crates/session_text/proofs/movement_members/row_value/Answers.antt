use Rattle.session_text.proofs.movement_members.row_value.Goals as goal

pub returns : goal.returns
returns c =
    c.array.ensures _
    (c.item-5.ensures _ _
    (c.item-4.ensures _ _
    (c.item-3.ensures _ _
    (c.item-2.ensures _ _
    (c.item.ensures _ _ c.new.ensures c.from.ensures) c.from-2.ensures) c.from-3.ensures)
    (c.string_value.ensures _ c.to_string.ensures.ok)) (c.string_value-2.ensures _ c.to_string-2.ensures.ok))
