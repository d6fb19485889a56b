use Rattle.std.proofs.Common.{◌≡◌, ◌≤◌, ◌++◌, take, length, vec_len, vec_capacity}
use Rattle.history.specs.Prefixes.{entries_of}
use Rattle.session_book.specs.Run.{Runs}
use Rattle.desks.proofs.batches.run_batch.Given as goal

abbrev pub invariant-loop-command : goal.invariant-loop-command
invariant-loop-command g l = record {
  opening : l.book.opening ≡ g.N.Server.opening;
  published : l.publisher.published ≡ l.initial.publisher.published;
  journal : l.book.journal ≡ entries_of l.publisher.published ++ l.publisher.pending;
  counted : vec_len l.answers ≡ l.command-index;
  room : length l.batch ≤ vec_capacity l.answers;
  runs : Runs l.stopped g.N.Server.opening l.initial.book.journal l.actor (take l.command-index l.batch)
      (record { journal = l.book.journal; answers = l.answers.items });
}
