use Rattle.std.proofs.Common.{◌≡◌, ◌∙◌, inl, inr, ap, sym, subst, ◌∷◌, [], map}
use Rattle.std.proofs.lemmas.Result.{IfOk-weaker, IfErr-weaker}
use Rattle.sqlite.specs.Files.{file_state}
use Rattle.sqlite.specs.WalFiles.{image_at}
use Rattle.journal_store.specs.Kept.{texts_of}
use Rattle.journal_store.specs.Tables.{session_row}
use Rattle.kept_entries.specs.KeptRows.{lists_in, rows_of}
use Rattle.kept_sessions.specs.Sources.{IsSessionOf}
use Rattle.kept_sessions.specs.Faults.{WhyFilesNotTaken, WhyNotTakenUp}
use Rattle.kept_sessions.proofs.FaultLemmas.{cleanly, never_cut, rows_not_taken, memory_or_texts}
use Rattle.kept_sessions.proofs.KeptLemmas.{taken_as}
use Rattle.kept_sessions.proofs.journal_session.kept_session_of_texts.Goals as goal

pub returns-in-Ok-open_row_journal-clause-taken : goal.returns-in-Ok-open_row_journal-clause-taken
returns-in-Ok-open_row_journal-clause-taken g c =
    let object = c.args.texts.now.object.items in
    let boards = c.args.texts.now.boards.items in
    let found = c.in-Ok-open_row_journal.found in
    let opened = c.in-Ok.session in
    let of_texts : IsSessionOf object boards opened.book.opening opened.book.journal opened.budget =
    rw (c.as_slice.ensures.value, c.as_slice-boards.ensures.value) at c.in-Ok.ensures.session in
    let text : c.in-Ok-from_utf8.object.now ≡ object = c.in-Ok-from_utf8.ensures.cases.0 ∙ c.as_slice-2.ensures.value in
    IfOk-weaker c.with_journal.result _ _ (λ kept read. record {
      session = subst (λ s. IsSessionOf object boards s.book.opening s.book.journal s.budget) (sym read.0) of_texts;
      taken = taken_as _ (session_row c.in-Ok-from_utf8.object.now c.as_slice-boards.result.now ∷ [])
          (session_row object boards ∷ []) (map texts_of found.rows) (rows_of (lists_in kept.journal.publications.items))
          (file_state found.conn) (file_state kept.journal.store.conn)
          (λ i. session_row (text i) (c.as_slice-boards.ensures.value i) ∷ [])
          (ap (λ conn. file_state conn) read.1) read.2 c.in-Ok-open_row_journal.ensures.opens;
    }) c.with_journal.ensures.read

pub returns-in-Ok-open_row_journal-clause-why : goal.returns-in-Ok-open_row_journal-clause-why
returns-in-Ok-open_row_journal-clause-why g c =
    let object = c.args.texts.now.object.items in
    let boards = c.args.texts.now.boards.items in
    let found = c.in-Ok-open_row_journal.found in
    let text : c.in-Ok-from_utf8.object.now ≡ object = c.in-Ok-from_utf8.ensures.cases.0 ∙ c.as_slice-2.ensures.value in
    IfErr-weaker c.with_journal.result _ _ (λ e unread clean.
    subst (λ o. WhyNotTakenUp (image_at g.S.Start) o boards e.1 e.0) text
    (subst (λ b. WhyNotTakenUp (image_at g.S.Start) c.in-Ok-from_utf8.object.now b e.1 e.0) c.as_slice-boards.ensures.value
    (rows_not_taken (image_at g.S.Start) c.in-Ok-from_utf8.object.now c.as_slice-boards.result.now found.rows e.1 e.0
    (c.in-Ok-open_row_journal.ensures.opens (unread.1 clean)).found unread.0)))
    c.with_journal.ensures.unread

pub returns-in-Err-open_row_journal-clause-why : goal.returns-in-Err-open_row_journal-clause-why
returns-in-Err-open_row_journal-clause-why g c = λ clean.
    let object = c.args.texts.now.object.items in
    let boards = c.args.texts.now.boards.items in
    let refused = c.in-Err-open_row_journal in
    let text : c.in-Ok-from_utf8.object.now ≡ object = c.in-Ok-from_utf8.ensures.cases.0 ∙ c.as_slice-2.ensures.value in
    let why : WhyFilesNotTaken (image_at g.S.Start)
    (session_row c.in-Ok-from_utf8.object.now c.as_slice-boards.result.now ∷ []) refused.left refused.fault = cleanly _ _ refused.left
    refused.ensures.refuses clean in
    inl (rw (text, c.as_slice-boards.ensures.value) at why)

pub returns-in-Err-clause-why : goal.returns-in-Err-clause-why
returns-in-Err-clause-why g c = λ clean.
    elim (memory_or_texts c.args.texts.now.object.items c.args.texts.now.boards.items c.in-Err.fault
    (rw (c.as_slice.ensures.value, c.as_slice-boards.ensures.value) at c.in-Err.ensures.why)) [
      | inl memory ↦ rw memory tt
      | inr cause ↦ rw cause.1.0 cause.1.1
    ]

pub returns-in-Err-from_utf8-clause-why : goal.returns-in-Err-from_utf8-clause-why
returns-in-Err-from_utf8-clause-why g c = λ clean.
    let object = c.args.texts.now.object.items in
    let boards = c.args.texts.now.boards.items in
    let opened = c.in-Ok.session in
    let of_texts : IsSessionOf object boards opened.book.opening opened.book.journal opened.budget =
    rw (c.as_slice.ensures.value, c.as_slice-boards.ensures.value) at c.in-Ok.ensures.session in
    absurd (never_cut object boards opened.book.opening opened.book.journal opened.budget _ of_texts
    (rw c.as_slice-2.ensures.value at c.in-Err-from_utf8.ensures.valid_len)
    (rw c.as_slice-2.ensures.value at c.in-Err-from_utf8.ensures.cases.1.short))
