use Rattle.reply_texts.proofs.traveller_writing.contract_value.Goals as goal

pub returns : goal.returns
returns c =
    c.object.ensures _
    (c.number-6.ensures _ _
    (c.member-2.ensures _ _
    (c.number-4.ensures _ _
    (c.number-2.ensures _ _ (c.member.ensures _ _ c.new.ensures (c.string_value.ensures _ c.to_string.ensures.ok))
    c.number.ensures.number) c.number-3.ensures.value) (c.string_value-2.ensures _ c.to_string-2.ensures.ok))
    c.number-5.ensures.value)
