use Rattle.std.proofs.Common.{◌≡◌}
use Rattle.hall_threads.proofs.entrance.Entrance.looks.Given as goal

-- looking changes nobody who asks
abbrev pub invariant-loop : goal.invariant-loop
invariant-loop g l = l.self.askers ≡ l.initial.self.askers
