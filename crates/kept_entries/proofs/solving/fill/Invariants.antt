use Rattle.std.proofs.Common.{◌≡◌, map}
use Rattle.kept_entries.specs.RowTexts.{entry_told}
use Rattle.kept_entries.proofs.solving.fill.Given as goal

abbrev pub invariant-solved : goal.invariant-solved
invariant-solved l = map entry_told l.read ≡ map entry_told l.fn.read
