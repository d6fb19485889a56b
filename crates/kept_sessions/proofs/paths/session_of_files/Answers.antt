use Rattle.std.proofs.Common.{inl, inr}
use Rattle.std.proofs.lemmas.Result.{IfOk-weaker, IfErr-weaker}
use Rattle.kept_sessions.proofs.paths.session_of_files.Goals as goal

pub returns-in-Ok-clause-session : goal.returns-in-Ok-clause-session
returns-in-Ok-clause-session g c =
    let texts = c.in-Ok.texts in
    IfOk-weaker c.session_of_texts.result _ _
    (λ session is. (
      texts.object.items,
      texts.boards.items,
      c.in-Ok.ensures.texts,
      rw (c.as_slice.ensures.value, c.as_slice-boards.ensures.value) at is,
    ))
    c.session_of_texts.ensures.session

pub returns-in-Ok-clause-why : goal.returns-in-Ok-clause-why
returns-in-Ok-clause-why g c =
    let texts = c.in-Ok.texts in
    IfErr-weaker c.session_of_texts.result _ _
    (λ fault why. inr (
      texts.object.items,
      texts.boards.items,
      c.in-Ok.ensures.texts,
      rw (c.as_slice.ensures.value, c.as_slice-boards.ensures.value) at why,
    ))
    c.session_of_texts.ensures.why

pub returns-in-Err-clause-why : goal.returns-in-Err-clause-why
returns-in-Err-clause-why g c = inl c.in-Err.ensures.unread
