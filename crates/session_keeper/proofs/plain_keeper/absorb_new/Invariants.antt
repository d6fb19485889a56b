use Rattle.std.proofs.Common.{◌≡◌}
use Rattle.session_keeper.specs.PlainKeeping.{IsBehind}
use Rattle.session_keeper.proofs.plain_keeper.absorb_new.Given as goal

abbrev pub invariant-loop-number : goal.invariant-loop-number
invariant-loop-number l = record {
  at : l.view.version ≡ l.number;
  behind : IsBehind l.book.opening l.book.journal l.view;
}
