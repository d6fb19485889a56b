use Rattle.std.proofs.Common.{◌≡◌, string_bytes}
use Rattle.preparing.specs.Escaping.{escaped_signs}
use Rattle.preparing.proofs.escaping.escaped.Given as goal

abbrev pub invariant-loop-sign : goal.invariant-loop-sign
invariant-loop-sign l = string_bytes l.page ≡ escaped_signs l.yielded
