use Rattle.std.proofs.Common.{◌≡◌, ◌≤◌, take, drop, vec_len, vec_capacity}
use Rattle.session_book.specs.Audit.{numbered_from}
use Rattle.session_book.proofs.audit.rows_of.Given as goal

abbrev pub invariant-loop-k : goal.invariant-loop-k
invariant-loop-k l = record {
  counted : vec_len l.rows ≡ l.k;
  room : l.count ≤ vec_capacity l.rows;
  rows : l.rows.items ≡ take l.k (drop l.before (numbered_from 1 l.journal));
}
