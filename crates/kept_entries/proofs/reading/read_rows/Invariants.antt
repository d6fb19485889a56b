use Rattle.std.proofs.Common.{◌≡◌, length, take}
use Rattle.kept_entries.specs.RowTexts.{AreTold}
use Rattle.kept_entries.proofs.reading.read_rows.Given as goal

abbrev pub invariant-rows : goal.invariant-rows
invariant-rows l = (length l.read.items ≡ l.place) × AreTold (take l.place l.rows) l.read.items
