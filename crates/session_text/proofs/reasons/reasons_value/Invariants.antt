use Rattle.std.proofs.Common.{map, take}
use Rattle.serde_json.specs.Data.{string}
use Rattle.json_fields.specs.Written.{HasItems}
use Rattle.session_text.proofs.reasons.reasons_value.Given as goal

abbrev pub invariant-loop-reason : goal.invariant-loop-reason
invariant-loop-reason l = HasItems l.items (map (λ bytes. string bytes) (take l.reason-index l.reasons))
