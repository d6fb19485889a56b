use Rattle.std.proofs.Common.{◌≡◌, drop}
use Rattle.session_state.specs.Refusal.{first_cause}
use Rattle.session_state.proofs.causes.first_cause.Given as goal

abbrev pub invariant-loop-cause : goal.invariant-loop-cause
invariant-loop-cause g l = first_cause l.causes ≡ first_cause (drop l.cause-index l.causes)
