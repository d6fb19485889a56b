use Rattle.std.proofs.Common.{◌≡◌, map, take}
use Rattle.pbn_report.specs.PbnText.{dotted_byte}
use Rattle.pbn_report.proofs.pbn_games.dotted.Given as goal

-- the bytes so far
abbrev pub invariant-loop-byte : goal.invariant-loop-byte
invariant-loop-byte l = l.bytes.items ≡ map dotted_byte (take l.byte-index l.date)
