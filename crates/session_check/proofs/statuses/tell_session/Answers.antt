use Rattle.session_check.proofs.CheckLemmas.{misread_text}
use Rattle.session_check.proofs.statuses.tell_session.Goals as goal

pub tell_misread-requires : goal.tell_misread-requires
tell_misread-requires g c =
    misread_text _ c.args.text.now c.in-Err.refused.fault (c.is_bad_field.ensures c.if-is_bad_field.true)
    c.in-Err.ensures.none
