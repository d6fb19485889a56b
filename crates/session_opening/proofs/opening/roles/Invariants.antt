use Rattle.std.proofs.Common.{◌≡◌, take}
use Rattle.rbac.specs.Authorization.{KeepsSeparation}
use Rattle.session_opening.specs.Opening.{opening_roles}
use Rattle.session_opening.proofs.opening.roles.Given as goal

abbrev pub invariant-loop-user : goal.invariant-loop-user
invariant-loop-user l = record {
  joined : l.roles ≡ opening_roles l.fn.edition (take l.user-index l.users);
  separate : KeepsSeparation l.roles;
}
