use Rattle.std.proofs.Common.{Some}
use Rattle.sqlite.specs.Files.{file_state}
use Rattle.sqlite.specs.WalFiles.{image_at}
use Rattle.kept_entries.specs.KeptRows.{lists_in}
use Rattle.kept_sessions.proofs.FaultLemmas.{entries_not_told, not_reopened_told}
use Rattle.kept_sessions.proofs.KeptLemmas.{nothing_entered}
use Rattle.kept_sessions.proofs.auditing.audit_of_journal.Goals as goal

pub returns-in-Ok-audit_of_publications-clause-kept : goal.returns-in-Ok-audit_of_publications-clause-kept
returns-in-Ok-audit_of_publications-clause-kept g c =
    let session = c.in-Ok.kept.session in
    let journal = c.in-Ok.kept.journal in
    let publications = lists_in journal.publications.items in
    record {
      opening = session.book.opening;
      budget = session.budget;
      publications = publications;
      kept =
          nothing_entered (image_at g.S.Start) session.book.opening session.book.journal session.budget publications
          (file_state journal.store.conn) c.in-Ok.ensures.kept;
      just = c.in-Ok.ensures.leaves;
      accepted = rw c.as_slice.ensures.value at c.in-Ok-audit_of_publications.ensures.accepted;
      lines = rw c.as_slice.ensures.value at c.in-Ok-audit_of_publications.ensures.lines;
    }

pub returns-in-Err-clause-why : goal.returns-in-Err-clause-why
returns-in-Err-clause-why g c = λ clean.
    not_reopened_told (image_at g.S.Start) c.in-Err.refused.1 c.in-Err.refused.0 (c.in-Err.ensures.why clean)

pub returns-clause-why : goal.returns-clause-why
returns-clause-why g c = λ clean.
    let session = c.in-Ok.kept.session in
    let journal = c.in-Ok.kept.journal in
    let publications = lists_in journal.publications.items in
    let kept = c.in-Ok.ensures.kept in
    entries_not_told (image_at g.S.Start) kept.object kept.boards session.book.opening session.book.journal session.budget
    publications (Some c.left_of_journal.result) c.in-Err-audit_of_publications.fault kept.session (kept.kept (c.left_of_journal.ensures clean)).found
    (rw c.as_slice.ensures.value at c.in-Err-audit_of_publications.ensures.fault)
