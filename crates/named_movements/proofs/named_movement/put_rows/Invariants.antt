use Rattle.std.proofs.Common.{◌≡◌, length, take, map}
use Rattle.std.specs.List.{range_with_len}
use Rattle.named_movements.proofs.RowsLemmas.{row_by_place}
use Rattle.named_movements.proofs.named_movement.put_rows.Given as goal

-- the rows so far stand there
abbrev pub invariant-loop-place : goal.invariant-loop-place
invariant-loop-place l = record {
  long : length l.rows ≡ 256;
  rows : take l.place l.rows ≡ map (row_by_place l.named) (range_with_len 0 l.place);
}
