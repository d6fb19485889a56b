use Rattle.std.proofs.Common.{◌≡◌, ◌++◌, take}
use Rattle.history.specs.Prefixes.{entries_of}
use Rattle.desks.proofs.reentry.enter_all.Given as goal

abbrev pub invariant-loop-entry : goal.invariant-loop-entry
invariant-loop-entry g l = record {
  opening : l.book.opening ≡ g.N.Server.opening;
  same : l.publisher.published ≡ l.fn.publisher.published;
  journal : l.book.journal ≡ entries_of l.publisher.published ++ l.publisher.pending;
  pending : l.publisher.pending ≡ l.fn.publisher.pending ++ take l.entry-index l.entries;
  joined : l.book.journal ≡ l.fn.book.journal ++ take l.entry-index l.entries;
}
