use Rattle.std.proofs.Common.{Some, ap, sym, subst, ◌∷◌, [], map}
use Rattle.std.specs.Prelude.{string_bytes}
use Rattle.std.proofs.lemmas.Result.{IfOk-weaker, IfErr-weaker}
use Rattle.sqlite.specs.Files.{file_state}
use Rattle.sqlite.specs.WalFiles.{image_at}
use Rattle.journal_store.specs.Kept.{texts_of, row_of_session}
use Rattle.kept_entries.specs.KeptRows.{lists_in, rows_of}
use Rattle.kept_sessions.specs.Sources.{IsSessionOf}
use Rattle.kept_sessions.proofs.FaultLemmas.{rows_not_reopened, texts_not_reopened}
use Rattle.kept_sessions.proofs.KeptLemmas.{kept_as}
use Rattle.kept_sessions.proofs.journal_session.kept_session.Goals as goal

pub returns-in-Ok-session_of_texts-clause-kept : goal.returns-in-Ok-session_of_texts-clause-kept
returns-in-Ok-session_of_texts-clause-kept g c =
    let texts = c.in-Ok.kept.0 in
    let found = c.in-Ok.kept.1 in
    let opened = c.in-Ok-session_of_texts.session in
    let of_texts : IsSessionOf (string_bytes texts.object) texts.boards.items opened.book.opening opened.book.journal opened.budget =
    rw (c.as_bytes.ensures.value, c.as_slice.ensures.value) at c.in-Ok-session_of_texts.ensures.session in
    IfOk-weaker c.with_journal.result _ _ (λ kept read. record {
      object = string_bytes texts.object;
      boards = texts.boards.items;
      session = subst (λ s. IsSessionOf (string_bytes texts.object) texts.boards.items s.book.opening s.book.journal s.budget)
          (sym read.0) of_texts;
      kept = kept_as _ (row_of_session texts ∷ []) (map texts_of found.rows)
          (rows_of (lists_in kept.journal.publications.items)) (file_state found.conn)
          (file_state kept.journal.store.conn) (ap (λ conn. file_state conn) read.1) read.2 c.in-Ok.ensures.opens;
    }) c.with_journal.ensures.read

pub returns-in-Ok-session_of_texts-clause-why : goal.returns-in-Ok-session_of_texts-clause-why
returns-in-Ok-session_of_texts-clause-why g c =
    let texts = c.in-Ok.kept.0 in
    let found = c.in-Ok.kept.1 in
    IfErr-weaker c.with_journal.result _ _ (λ e unread clean.
    rows_not_reopened (image_at g.S.Start) (string_bytes texts.object) texts.boards.items found.rows e.1 e.0
    (c.in-Ok.ensures.opens (unread.1 clean)).found unread.0)
    c.with_journal.ensures.unread

pub returns-clause-why : goal.returns-clause-why
returns-clause-why g c = λ clean.
    let texts = c.in-Ok.kept.0 in
    let found = c.in-Ok.kept.1 in
    texts_not_reopened (image_at g.S.Start) (string_bytes texts.object) texts.boards.items (map texts_of found.rows)
    (Some c.left_of_found.result) c.in-Err-session_of_texts.fault (c.in-Ok.ensures.opens (c.left_of_found.ensures clean)).found
    (rw (c.as_bytes.ensures.value, c.as_slice.ensures.value) at c.in-Err-session_of_texts.ensures.why)
