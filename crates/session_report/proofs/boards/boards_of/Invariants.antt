use Rattle.std.proofs.Common.{◌≡◌, length}
use Rattle.std.specs.List.{filter_map, range_with_len}
use Rattle.session_report.specs.Report.{AreReported, reported_board}
use Rattle.session_report.proofs.boards.boards_of.Given as goal

-- the boards so far
abbrev pub invariant-loop-before : goal.invariant-loop-before
invariant-loop-before l = record {
  boards : l.boards.items ≡ filter_map (reported_board l.state) (range_with_len 1 l.before);
  numbered : AreReported 1 l.boards.items;
  many : length l.boards.items ≡ l.before;
}
