use Rattle.std.proofs.Common.{◌≡◌, ◌≤◌, take, length, vec_len, vec_capacity}
use Rattle.session_book.specs.Run.{Runs}
use Rattle.session_book.proofs.book.Book.submit.Given as goal

abbrev pub invariant-loop-command : goal.invariant-loop-command
invariant-loop-command l = record {
  counted : vec_len l.answers ≡ l.command-index;
  room : length l.batch ≤ vec_capacity l.answers;
  opening : l.self.opening ≡ l.initial.self.opening;
  runs : Runs l.stopped l.initial.self.opening l.initial.self.journal l.actor (take l.command-index l.batch)
      (record { journal = l.self.journal; answers = l.answers.items });
}
