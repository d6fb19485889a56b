use Rattle.session_text.proofs.members.with_seat.Goals as goal

pub returns-in-Some : goal.returns-in-Some
returns-in-Some c = λ members has.
    rw (c.in-Some.is)
    (c.member-in-Some.ensures _ _ (c.member.ensures members _ has (c.string_value.ensures _ c.to_string.ensures.ok))
    (c.string_value-in-Some.ensures _ c.to_string-in-Some.ensures.ok))
