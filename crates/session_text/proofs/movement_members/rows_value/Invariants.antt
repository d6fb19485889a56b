use Rattle.std.proofs.Common.{map, take}
use Rattle.json_fields.specs.Written.{HasItems}
use Rattle.session_text.specs.SessionData.{row_data}
use Rattle.session_text.proofs.movement_members.rows_value.Given as goal

abbrev pub invariant-loop-row : goal.invariant-loop-row
invariant-loop-row l = HasItems l.items (map row_data (take l.row-index l.rows))
