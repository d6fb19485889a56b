use Rattle.session_text.proofs.user.user_value.Goals as goal

pub returns : goal.returns
returns c =
    c.object.ensures _
    (c.with_shown.ensures _
    (c.member.ensures _ _ (c.with_seat.ensures _ c.first_members.ensures) c.roles_value.ensures))
