use Rattle.reply_texts.proofs.list_writing.StandingToJson.to_json.Goals as goal

pub returns : goal.returns
returns c =
    c.array.ensures _
    (c.item-3.ensures _ _
    (c.item-2.ensures _ _ (c.item.ensures _ _ c.new.ensures (c.string_value.ensures _ c.to_string.ensures.ok))
    c.from.ensures) c.from-2.ensures)
