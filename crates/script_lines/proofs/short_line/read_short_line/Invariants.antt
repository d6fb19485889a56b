use Rattle.std.proofs.Common.{◌≡◌, ◌+◌, ◌≤◌, length}
use Rattle.std.specs.Io.KnownBytes.{Consumes}
use Rattle.script_lines.specs.Reading.{IsUnbroken}
use Rattle.script_lines.proofs.short_line.read_short_line.Given as goal

abbrev pub invariant-loop-line : goal.invariant-loop-line
invariant-loop-line g l = record {
  unbroken : IsUnbroken l.line.items;
  consumed : Consumes (g.R.ByteSource.remaining l.fn.reader) (g.R.ByteSource.remaining l.reader) l.line.items;
  counted : l.left + length l.line.items ≡ l.fn.left;
  few : length l.line.items ≤ l.most;
  same : g.R.ByteSource.place l.reader ≡ g.R.ByteSource.place l.fn.reader;
}

abbrev pub decreases-loop-line : goal.decreases-loop-line
decreases-loop-line g l = l.left
