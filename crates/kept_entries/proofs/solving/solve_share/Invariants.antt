use Rattle.std.proofs.Common.{All}
use Rattle.kept_entries.specs.RowTexts.{IsToldAt}
use Rattle.kept_entries.proofs.solving.solve_share.Given as goal

abbrev pub invariant-turns : goal.invariant-turns
invariant-turns l = All (IsToldAt l.read) l.solved.items
