use Rattle.std.proofs.Common.{◌≡◌, take}
use Rattle.history.specs.Prefixes.{entries_of}
use Rattle.kept_entries.specs.KeptRows.{lists_in}
use Rattle.kept_sessions.proofs.reporting.report_of_publications.Given as goal

abbrev pub invariant-loop-publication : goal.invariant-loop-publication
invariant-loop-publication l = record {
  opening : l.book.opening ≡ l.fn.book.opening;
  entered : l.book.journal ≡ entries_of (lists_in (take l.publication-index l.publications));
}
