use Rattle.std.proofs.Common.{◌≡◌, [], ℕ, ◌<◌, get_or}
use Rattle.session_roles.specs.declared.role.Role.TheVariants.{Member}
use Rattle.session_roles.specs.Role.{roles, with_role}
use Rattle.rbac.proofs.hierarchy.Hierarchy.new.Given as goal

abbrev pub invariant-loop-place : goal.invariant-loop-place
invariant-loop-place l = (k : ℕ) → k < l.place → get_or l.reached k [] ≡ with_role [] (get_or roles k Member)
