use Rattle.std.proofs.Common.{◌≡◌, map, take}
use Rattle.event_log.specs.Plain.{plain_byte}
use Rattle.event_log.proofs.plain_text.plain.Given as goal

-- the bytes so far
abbrev pub invariant-loop-byte : goal.invariant-loop-byte
invariant-loop-byte l = l.text.items ≡ map plain_byte (take l.byte-index l.name)
