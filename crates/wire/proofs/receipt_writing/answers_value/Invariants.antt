use Rattle.std.proofs.Common.{◌≡◌, map, take}
use Rattle.serde_json.specs.View.{view}
use Rattle.wire.specs.ReceiptText.{answer_data}
use Rattle.wire.proofs.receipt_writing.answers_value.Given as goal

-- the values so far are the answers' texts so far
abbrev pub invariant-loop-answer : goal.invariant-loop-answer
invariant-loop-answer l = map view l.values.items ≡ map answer_data (take l.answer-index l.answers)
