use Rattle.std.proofs.Common.{◌≡◌, take}
use Rattle.session_report.specs.Report.{with_earnings}
use Rattle.session_report.proofs.boards.beside.Given as goal

-- the rows so far
abbrev pub invariant-loop-place : goal.invariant-loop-place
invariant-loop-place l = l.joined.items ≡ with_earnings l.board (take l.place l.rows) (take l.place l.earnings)
