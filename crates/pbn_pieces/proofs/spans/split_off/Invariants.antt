use Rattle.std.proofs.Common.{◌≡◌, ℕ, ◌<◌, true, get_or}
use Rattle.pbn_pieces.specs.Kinds.{is_of_kind}
use Rattle.pbn_pieces.proofs.spans.split_off.Given as goal

abbrev pub invariant-loop-i : goal.invariant-loop-i
invariant-loop-i l = (k : ℕ) → k < l.i → is_of_kind l.kind (get_or l.bytes k 0) ≡ true
