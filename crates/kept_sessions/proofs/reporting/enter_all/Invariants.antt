use Rattle.std.proofs.Common.{◌≡◌, ◌++◌, take}
use Rattle.kept_sessions.proofs.reporting.enter_all.Given as goal

abbrev pub invariant-loop-entry : goal.invariant-loop-entry
invariant-loop-entry l = record {
  opening : l.book.opening ≡ l.fn.book.opening;
  entered : l.book.journal ≡ l.fn.book.journal ++ take l.entry-index l.entries;
}
