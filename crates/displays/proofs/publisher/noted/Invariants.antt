use Rattle.std.proofs.Common.{◌≡◌}
use Rattle.displays.proofs.publisher.noted.Given as goal

abbrev pub invariant-loop : goal.invariant-loop
invariant-loop g l = l.prefix ≡ l.published
