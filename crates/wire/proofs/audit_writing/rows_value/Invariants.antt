use Rattle.std.proofs.Common.{◌≡◌, map, take}
use Rattle.serde_json.specs.View.{view}
use Rattle.wire.specs.AuditText.{audit_row_data}
use Rattle.wire.proofs.audit_writing.rows_value.Given as goal

-- the values so far are those of the rows so far
abbrev pub invariant-loop-row : goal.invariant-loop-row
invariant-loop-row l = map view l.values.items ≡ map audit_row_data (take l.row-index l.rows)
