use Rattle.std.proofs.Common.{◌≡◌, take}
use Rattle.session_opening.specs.NewUser.{set_of}
use Rattle.session_opening.proofs.opening_acceptance.set_of.Given as goal

abbrev pub invariant-loop-role : goal.invariant-loop-role
invariant-loop-role l = l.set ≡ set_of (take l.role-index l.list)
