use Rattle.std.proofs.Common.{◌≡◌, ◌≤◌, vec_len, vec_capacity}
use Rattle.pbn_records.specs.Each.{HasFirst}
use Rattle.pbn_records.proofs.reading.board_set.Given as goal

abbrev pub invariant-loop-index : goal.invariant-loop-index
invariant-loop-index l = record {
  first : HasFirst l.known l.index l.row.items;
  counted : vec_len l.row ≡ l.index;
  room : l.boards ≤ vec_capacity l.row;
}
