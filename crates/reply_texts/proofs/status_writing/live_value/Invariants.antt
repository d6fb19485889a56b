use Rattle.std.proofs.Common.{◌≡◌, map}
use Rattle.std.specs.List.{range_with_len}
use Rattle.serde_json.specs.View.{view}
use Rattle.reply_texts.specs.StatusText.{tables_data}
use Rattle.reply_texts.proofs.status_writing.live_value.Given as goal

-- the values so far are those of the boards so far
abbrev pub invariant-loop-before : goal.invariant-loop-before
invariant-loop-before l = map view l.values.items ≡ map (tables_data l.public) (range_with_len 1 l.before)
