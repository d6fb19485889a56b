use Rattle.session_text.proofs.user.with_member_number.Goals as goal

pub returns-in-Some : goal.returns-in-Some
returns-in-Some c = λ members has. rw (c.in-Some.is) (c.member.ensures members _ has c.number_value.ensures)
