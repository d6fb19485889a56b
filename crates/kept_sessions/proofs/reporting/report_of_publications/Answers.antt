use Rattle.std.proofs.Common.{◌∙◌, ◌+◌, refl, sym, ap, List, ◌++◌, take, drop}
use Rattle.session_commands.specs.declared.entry.Entry.{Entry}
use Rattle.history.specs.Prefixes.{entries_of}
use Rattle.kept_entries.specs.KeptRows.{lists_in}
use Rattle.kept_sessions.proofs.LineLemmas.{entered_all, entered_more}
use Rattle.kept_sessions.proofs.NotToldLemmas.{memory_not_told, not_told_inside}
use Rattle.kept_sessions.proofs.reporting.report_of_publications.Goals as goal

pub loop-publication-init : goal.loop-publication-init
loop-publication-init c = record { opening = refl; entered = c.requires }

pub loop-publication-preserved : goal.loop-publication-preserved
loop-publication-preserved c =
    let publications = c.args.publications.now in
    let i = c.loop-publication.publication-index in
    let before = entries_of (lists_in (take i publications)) in
    record {
      opening = c.enter_all.ensures.opening ∙ c.loop-publication.invariant.opening;
      entered =
          c.in_default.ensures.entered
          ∙ ap (λ (l : List Entry). l ++ c.as_slice.result.now) c.loop-publication.invariant.entered
          ∙ ap (λ (l : List Entry). before ++ l) c.as_slice.ensures.value
          ∙ sym (entered_more publications i c.publication-item.result c.loop-publication-test.true c.publication-item.is);
    }

pub returns-in-Err-clause-fault : goal.returns-in-Err-clause-fault
returns-in-Err-clause-fault c =
    let publications = c.args.publications.now in
    let i = c.loop-publication.publication-index in
    let one = c.publication-item.result in
    let opening = c.args.book.opening in
    let before = entries_of (lists_in (take i publications)) in
    not_told_inside opening (before ++ one.items) (entries_of (lists_in (drop (i + 1) publications)))
    (entries_of (lists_in publications)) c.in-Err.fault
    (entered_all publications i one c.loop-publication-test.true c.publication-item.is)
    (rw (c.loop-publication.invariant.opening, c.loop-publication.invariant.entered, c.as_slice.ensures.value)
    at c.in-Err.ensures.fault)

pub returns-clause-fault : goal.returns-clause-fault
returns-clause-fault c =
    memory_not_told c.args.book.opening (entries_of (lists_in c.args.publications.now)) c.report_of_book-report.result
    c.report_of_book-report.ensures.fault
