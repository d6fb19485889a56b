use Rattle.std.proofs.Common.{◌≡◌, take}
use Rattle.std.specs.List.{filter_map}
use Rattle.kept_sessions.specs.Reported.{membership_of}
use Rattle.kept_sessions.proofs.memberships.memberships_of.Given as goal

-- the numbers of the users so far
abbrev pub invariant-loop-user : goal.invariant-loop-user
invariant-loop-user l = l.memberships.items ≡ filter_map membership_of (take l.user-index l.users)
