use Rattle.std.proofs.Common.{◌≡◌, []}
use Rattle.session_opening.specs.OpeningRefusal.{users_causes}
use Rattle.session_state.specs.Refusal.{first_cause}
use Rattle.session_opening.proofs.OpeningRefusalLemmas.{causes_on}
use Rattle.session_opening.proofs.opening_acceptance.users_refusal.Given as goal

abbrev pub invariant-loop-place : goal.invariant-loop-place
invariant-loop-place l =
    first_cause (users_causes l.edition l.movement [] l.users)
    ≡ first_cause (causes_on l.edition l.movement l.users l.place)
