use Rattle.std.proofs.Common.{◌≡◌, drop}
use Rattle.session_opening.specs.NewUser.{repeats}
use Rattle.session_opening.proofs.opening_acceptance.repeats.Given as goal

abbrev pub invariant-loop-place : goal.invariant-loop-place
invariant-loop-place l = repeats l.list ≡ repeats (drop l.place l.list)
