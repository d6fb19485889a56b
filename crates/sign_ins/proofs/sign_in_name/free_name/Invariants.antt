use Rattle.std.proofs.Common.{◌≡◌, ◌≤◌, ◌<◌, ℕ, false}
use Rattle.sign_ins.specs.SignInName.{is_free, numbered_name}
use Rattle.sign_ins.proofs.sign_in_name.free_name.Given as goal

abbrev pub invariant-loop-number : goal.invariant-loop-number
invariant-loop-number l =
    (k : ℕ) → 1 ≤ k → k < l.number-counter → is_free l.taken (numbered_name l.base k) ≡ false
