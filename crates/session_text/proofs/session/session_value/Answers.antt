use Rattle.session_text.proofs.session.session_value.Goals as goal

pub returns : goal.returns
returns c =
    c.object.ensures _
    (c.member.ensures _ _ (c.with_last_members.ensures _ (c.with_rounds.ensures _ c.first_members.ensures))
    c.users_value.ensures)
