use Rattle.std.proofs.Common.{◌≡◌, ℕ, ◌<◌, false, get_or}
use Rattle.std.specs.Prelude.{nat_eq}
use Rattle.named_movements.proofs.howell.place_among.Given as goal

-- none so far is the pair
abbrev pub invariant-loop-place : goal.invariant-loop-place
invariant-loop-place l = (k : ℕ) → k < l.place → nat_eq l.pair (get_or l.pairs k 0) ≡ false
