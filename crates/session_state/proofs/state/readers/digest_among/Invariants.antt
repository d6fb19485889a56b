use Rattle.std.proofs.Common.{◌≡◌, ◌-◌, drop}
use Rattle.session_state.specs.Readers.{digest_among}
use Rattle.session_state.proofs.state.readers.digest_among.Given as goal

-- the digest among those that were gone through, which are the last so many
abbrev pub invariant-loop-step : goal.invariant-loop-step
invariant-loop-step l = l.found ≡ digest_among (drop (l.count - l.step) l.accounts) (drop (l.count - l.step) l.digests) l.name
