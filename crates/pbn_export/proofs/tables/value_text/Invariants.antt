use Rattle.std.proofs.Common.{◌≡◌, take}
use Rattle.std.specs.List.{flat_map}
use Rattle.pbn_export.specs.Tables.{value_byte}
use Rattle.pbn_export.proofs.tables.value_text.Given as goal

-- the bytes so far
abbrev pub invariant-loop-byte : goal.invariant-loop-byte
invariant-loop-byte l = l.written.items ≡ flat_map value_byte (take l.byte-index l.text)
