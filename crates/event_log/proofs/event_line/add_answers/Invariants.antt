use Rattle.std.proofs.Common.{◌≡◌, ◌++◌, take}
use Rattle.std.specs.List.{flat_map}
use Rattle.event_log.specs.Lines.{answered_text}
use Rattle.event_log.proofs.event_line.add_answers.Given as goal

-- what stood there, and what is told of the commands so far
abbrev pub invariant-loop-answer : goal.invariant-loop-answer
invariant-loop-answer l = l.line.items ≡ l.fn.line.items ++ flat_map answered_text (take l.answer-index l.answers)
