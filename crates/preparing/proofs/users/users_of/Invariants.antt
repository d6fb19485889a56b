use Rattle.std.proofs.Common.{take}
use Rattle.preparing.specs.Guests.{AreUsersOfGuests}
use Rattle.preparing.proofs.users.users_of.Given as goal

abbrev pub invariant-loop-guest : goal.invariant-loop-guest
invariant-loop-guest l = AreUsersOfGuests (take l.guest-index l.guests) l.users.items
