use Rattle.session_text.proofs.session.first_members.Goals as goal

pub returns : goal.returns
returns c =
    c.with_edition.ensures _
    (c.with_notice.ensures _ (c.member.ensures _ _ (c.with_pair.ensures _ c.new.ensures) c.from.ensures))
