use Rattle.std.proofs.Common.{◌≡◌}
use Rattle.session_opening.proofs.JoiningLemmas.{so_far}
use Rattle.session_opening.proofs.opening.join.Given as goal

abbrev pub invariant-loop-role : goal.invariant-loop-role
invariant-loop-role l = l.roles ≡ so_far l.fn.roles l.user l.role-index
