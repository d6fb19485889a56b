use Rattle.std.proofs.Common.{◌≡◌, ◌+◌, List, ℕ, length, take}
use Rattle.std.specs.Io.KnownBytes.{Consumes}
use Rattle.script_lines.specs.Reading.{IsUnbroken}
use Rattle.script_lines.proofs.reading.read_line.Given as goal

abbrev pub invariant-loop-line : goal.invariant-loop-line
invariant-loop-line g l = record {
  piece : List ℕ;
  unbroken : IsUnbroken piece;
  kept : l.line.items ≡ take (l.most + 2) piece;
  consumed : Consumes (g.R.ByteSource.remaining l.fn.reader) (g.R.ByteSource.remaining l.reader) piece;
  counted : l.left + length piece ≡ l.fn.left;
  same : g.R.ByteSource.place l.reader ≡ g.R.ByteSource.place l.fn.reader;
}

abbrev pub decreases-loop-line : goal.decreases-loop-line
decreases-loop-line g l = l.left
