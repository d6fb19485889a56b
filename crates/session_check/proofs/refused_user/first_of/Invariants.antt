use Rattle.std.proofs.Common.{◌≡◌, take}
use Rattle.session_check.proofs.refused_user.first_of.Given as goal

abbrev pub invariant-loop-place : goal.invariant-loop-place
invariant-loop-place l = l.first.items ≡ take l.place l.users
