use Rattle.std.proofs.Common.{inl, inr}
use Rattle.std.proofs.lemmas.Result.{IfOk-weaker, IfErr-weaker}
use Rattle.kept_sessions.proofs.journal_session.kept_session_of_files.Goals as goal

pub returns-in-Ok-clause-taken : goal.returns-in-Ok-clause-taken
returns-in-Ok-clause-taken g c =
    let texts = c.in-Ok.texts in
    IfOk-weaker c.kept_session_of_texts.result _ _
    (λ kept taken. (texts.object.items, texts.boards.items, c.in-Ok.ensures.texts, taken))
    c.kept_session_of_texts.ensures.taken

pub returns-in-Ok-clause-why : goal.returns-in-Ok-clause-why
returns-in-Ok-clause-why g c =
    let texts = c.in-Ok.texts in
    IfErr-weaker c.kept_session_of_texts.result _ _
    (λ e why clean. inr (texts.object.items, texts.boards.items, c.in-Ok.ensures.texts, why clean))
    c.kept_session_of_texts.ensures.why

pub returns-in-Err-clause-why : goal.returns-in-Err-clause-why
returns-in-Err-clause-why g c = λ clean. inl c.in-Err.ensures.unread
