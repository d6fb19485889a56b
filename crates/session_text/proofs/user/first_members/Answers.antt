use Rattle.session_text.proofs.user.first_members.Goals as goal

pub returns : goal.returns
returns c =
    c.with_member_number.ensures _
    (c.member-2.ensures _ _ (c.member.ensures _ _ c.new.ensures (c.string_value.ensures _ c.encode.ensures))
    c.name_value.ensures)
