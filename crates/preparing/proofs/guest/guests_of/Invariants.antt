use Rattle.std.proofs.Common.{take}
use Rattle.preparing.specs.Guests.{AreGuestsOf}
use Rattle.preparing.proofs.guest.guests_of.Given as goal

abbrev pub invariant-loop-place : goal.invariant-loop-place
invariant-loop-place l = AreGuestsOf (take l.place l.people) l.tokens l.guests.items
