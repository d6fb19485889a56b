use Rattle.std.proofs.Common.{◌≡◌, map}
use Rattle.kept_entries.specs.RowTexts.{entry_told}
use Rattle.kept_entries.proofs.solving.solve_all.Given as goal

abbrev pub invariant-shares : goal.invariant-shares
invariant-shares g l = map entry_told l.read ≡ map entry_told l.fn.read
