use Rattle.std.proofs.Common.{Some, ap, inl, inr, sym, subst, ◌∷◌, [], map}
use Rattle.std.specs.Prelude.{string_bytes}
use Rattle.sqlite.specs.Files.{file_state}
use Rattle.sqlite.specs.WalFiles.{image_at}
use Rattle.history.specs.Prefixes.{entries_of}
use Rattle.journal_store.specs.Kept.{texts_of, row_of_session}
use Rattle.kept_entries.specs.KeptRows.{lists_in, rows_of}
use Rattle.kept_sessions.specs.Reported.{AreNumbersOf}
use Rattle.kept_sessions.specs.Sources.{IsSessionOf}
use Rattle.kept_sessions.specs.Faults.{WhyJournalNotTold}
use Rattle.kept_sessions.proofs.FaultLemmas.{entries_not_told, not_reopened_told, rows_not_reopened, texts_not_reopened}
use Rattle.kept_sessions.proofs.KeptLemmas.{kept_as}
use Rattle.kept_sessions.proofs.ReportLemmas.{report_of_texts}
use Rattle.kept_sessions.proofs.reporting.report_of_journal.Goals as goal

pub returns-in-Ok-report_of_publications-clause-kept :
    goal.returns-in-Ok-report_of_publications-clause-kept
returns-in-Ok-report_of_publications-clause-kept g c =
    let texts = c.in-Ok.kept.0 in
    let found = c.in-Ok.kept.1 in
    let opened = c.in-Ok-session_of_texts.session in
    let kept = c.in-Ok-with_journal.kept in
    let read = c.in-Ok-with_journal.ensures.read in
    let said = c.in-Ok-report_of_publications.ensures in
    let object = string_bytes texts.object in
    let boards = texts.boards.items in
    let publications = lists_in kept.journal.publications.items in
    let memberships = c.in-Ok-memberships_of_texts.memberships.items in
    let of_texts : IsSessionOf object boards opened.book.opening opened.book.journal opened.budget =
    rw (c.as_bytes-object.ensures.value, c.as_slice-boards.ensures.value) at c.in-Ok-session_of_texts.ensures.session in
    let members : AreNumbersOf object boards memberships =
    rw (c.as_bytes-object.ensures.value, c.as_slice-boards.ensures.value) at c.in-Ok-memberships_of_texts.ensures.numbers in
    let session = subst (λ s. IsSessionOf object boards s.book.opening s.book.journal s.budget) (sym read.0) of_texts in
    record {
      object = object;
      boards = boards;
      publications = publications;
      kept = kept_as _ (row_of_session texts ∷ []) (map texts_of found.rows) (rows_of publications) (file_state found.conn)
          (file_state kept.journal.store.conn) (ap (λ conn. file_state conn) read.1) read.2 c.in-Ok.ensures.opens;
      just = c.in-Ok-with_journal.ensures.leaves;
      is = report_of_texts object boards kept.session.book.opening kept.session.book.journal kept.session.budget memberships
          (entries_of publications) c.in-Ok-report_of_publications.report session members
          (rw c.as_slice-entered.ensures.value at said.accepted)
          (rw (c.as_slice-entered.ensures.value, c.as_slice.ensures.value) at said.report) said.numbered said.few;
    }

pub returns-in-Ok-report_of_publications-clause-session :
    goal.returns-in-Ok-report_of_publications-clause-session
returns-in-Ok-report_of_publications-clause-session g c =
    let journal = returns-in-Ok-report_of_publications-clause-kept g c in
    record {
      object = journal.object;
      boards = journal.boards;
      entries = entries_of journal.publications;
      is = journal.is;
    }

pub returns-in-Err-clause-why : goal.returns-in-Err-clause-why
returns-in-Err-clause-why g c = λ clean.
    not_reopened_told (image_at g.S.Start) c.in-Err.refused.1 c.in-Err.refused.0 (c.in-Err.ensures.why clean)

pub returns-in-Err-session_of_texts-clause-why : goal.returns-in-Err-session_of_texts-clause-why
returns-in-Err-session_of_texts-clause-why g c = λ clean.
    let texts = c.in-Ok.kept.0 in
    let found = c.in-Ok.kept.1 in
    let fault = c.in-Err-session_of_texts.fault in
    let left = Some c.left_of_found.result in
    not_reopened_told (image_at g.S.Start) left fault
    (texts_not_reopened (image_at g.S.Start) (string_bytes texts.object) texts.boards.items (map texts_of found.rows) left fault
    (c.in-Ok.ensures.opens (c.left_of_found.ensures clean)).found
    (rw (c.as_bytes-object.ensures.value, c.as_slice-boards.ensures.value) at c.in-Err-session_of_texts.ensures.why))

pub returns-in-Err-memberships_of_texts-clause-why : goal.returns-in-Err-memberships_of_texts-clause-why
returns-in-Err-memberships_of_texts-clause-why g c = λ clean.
    let texts = c.in-Ok.kept.0 in
    let found = c.in-Ok.kept.1 in
    let fault = c.in-Err-memberships_of_texts.fault in
    let left = Some c.left_of_found-in-Err-memberships_of_texts.result in
    elim c.in-Err-memberships_of_texts.ensures.why [
      | inl memory ↦ subst (WhyJournalNotTold (image_at g.S.Start) left) (sym memory) tt
      | inr why ↦ not_reopened_told (image_at g.S.Start) left fault
          (texts_not_reopened (image_at g.S.Start) (string_bytes texts.object) texts.boards.items (map texts_of found.rows) left fault
          (c.in-Ok.ensures.opens (c.left_of_found-in-Err-memberships_of_texts.ensures clean)).found
          (rw (c.as_bytes-object.ensures.value, c.as_slice-boards.ensures.value) at why))
    ]

pub returns-in-Err-with_journal-clause-why : goal.returns-in-Err-with_journal-clause-why
returns-in-Err-with_journal-clause-why g c = λ clean.
    let texts = c.in-Ok.kept.0 in
    let found = c.in-Ok.kept.1 in
    let refused = c.in-Err-with_journal.refused in
    let unread = c.in-Err-with_journal.ensures.unread in
    not_reopened_told (image_at g.S.Start) refused.1 refused.0
    (rows_not_reopened (image_at g.S.Start) (string_bytes texts.object) texts.boards.items found.rows refused.1 refused.0
    (c.in-Ok.ensures.opens (unread.1 clean)).found unread.0)

pub returns-clause-why : goal.returns-clause-why
returns-clause-why g c = λ clean.
    let texts = c.in-Ok.kept.0 in
    let found = c.in-Ok.kept.1 in
    let opened = c.in-Ok-session_of_texts.session in
    let kept = c.in-Ok-with_journal.kept in
    let read = c.in-Ok-with_journal.ensures.read in
    let object = string_bytes texts.object in
    let boards = texts.boards.items in
    let publications = lists_in kept.journal.publications.items in
    let of_texts : IsSessionOf object boards opened.book.opening opened.book.journal opened.budget =
    rw (c.as_bytes-object.ensures.value, c.as_slice-boards.ensures.value) at c.in-Ok-session_of_texts.ensures.session in
    let session = subst (λ s. IsSessionOf object boards s.book.opening s.book.journal s.budget) (sym read.0) of_texts in
    let held = kept_as _ (row_of_session texts ∷ []) (map texts_of found.rows) (rows_of publications) (file_state found.conn)
    (file_state kept.journal.store.conn) (ap (λ conn. file_state conn) read.1) read.2 c.in-Ok.ensures.opens in
    entries_not_told (image_at g.S.Start) object boards kept.session.book.opening kept.session.book.journal
    kept.session.budget publications (Some c.left_of_journal.result)
    c.in-Err-report_of_publications.fault session (held (c.left_of_journal.ensures clean)).found
    (rw c.as_slice-entered.ensures.value at c.in-Err-report_of_publications.ensures.fault)
