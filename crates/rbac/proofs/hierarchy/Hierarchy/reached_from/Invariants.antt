use Rattle.std.proofs.Common.{◌≡◌, take}
use Rattle.std.specs.Prelude.{◌&&◌}
use Rattle.std.specs.List.{list_any}
use Rattle.session_roles.specs.Role.{roles, roles_that, has}
use Rattle.rbac.specs.Hierarchy.{reach}
use Rattle.rbac.proofs.hierarchy.Hierarchy.reached_from.Given as goal

abbrev pub invariant-loop-senior : goal.invariant-loop-senior
invariant-loop-senior l =
    l.roles ≡ roles_that (λ role. list_any (λ senior. has l.assigned senior && reach l.self.reached senior role)
    (take l.senior-index roles))
