use Rattle.std.proofs.Common.{All, take}
use Rattle.preparing.specs.Guests.{IsSeated}
use Rattle.preparing.proofs.writable.are_seated.Given as goal

abbrev pub invariant-loop-guest : goal.invariant-loop-guest
invariant-loop-guest l = All IsSeated (take l.guest-index l.guests)
