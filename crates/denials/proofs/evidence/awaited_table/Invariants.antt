use Rattle.std.proofs.Common.{◌≡◌, ℕ, ◌+◌, ◌<◌, false}
use Rattle.denials.specs.Evidence.{is_awaited}
use Rattle.denials.proofs.evidence.awaited_table.Given as goal

-- no table so far is awaited
abbrev pub invariant-loop-below : goal.invariant-loop-below
invariant-loop-below l = (k : ℕ) → k < l.below → is_awaited l.public.movement l.public.live l.board (k + 1) ≡ false
