use Rattle.std.proofs.Common.{◌≡◌, take}
use Rattle.std.specs.List.{flat_map}
use Rattle.text_writer.specs.Markup.{escaped_byte}
use Rattle.text_writer.proofs.markup.escaped.Given as goal

-- the bytes so far
abbrev pub invariant-loop-byte : goal.invariant-loop-byte
invariant-loop-byte l = l.written.items ≡ flat_map escaped_byte (take l.byte-index l.text)
