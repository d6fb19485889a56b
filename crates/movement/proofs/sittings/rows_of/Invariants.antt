use Rattle.std.proofs.Common.{◌≡◌}
use Rattle.std.specs.List.{filter_map, range_with_len}
use Rattle.movement.specs.Kept.{row_at}
use Rattle.movement.proofs.sittings.rows_of.Given as goal

-- the rows so far are those that are kept at the places so far
abbrev pub invariant-loop-place : goal.invariant-loop-place
invariant-loop-place l = l.listed.items ≡ filter_map (row_at l.sittings) (range_with_len 0 l.place)
