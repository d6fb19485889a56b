use Rattle.std.proofs.Common.{◌≡◌, ◌++◌, take}
use Rattle.std.specs.Prelude.{string_bytes}
use Rattle.kept_sessions.specs.Audited.{lines_from}
use Rattle.kept_sessions.proofs.auditing.tell_all.Given as goal

abbrev pub invariant-loop-entry : goal.invariant-loop-entry
invariant-loop-entry l = record {
  opening : l.book.opening ≡ l.fn.book.opening;
  entered : l.book.journal ≡ l.fn.book.journal ++ take l.entry-index l.entries;
  lines : string_bytes l.text ≡ lines_from 1 l.book.journal;
}
