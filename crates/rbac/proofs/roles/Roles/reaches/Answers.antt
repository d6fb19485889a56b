use Rattle.std.proofs.Common.{List, ap, ◌∙◌}
use Rattle.session_roles.specs.declared.role.Role.{Role}
use Rattle.rbac.specs.Inheritance.{reaches}
use Rattle.session_roles.specs.Role.{has}
use Rattle.rbac.specs.RoleData.{RoleData}
use Rattle.rbac.proofs.roles.Roles.reaches.Goals as goal

pub returns : goal.returns
returns c =
    c.has.ensures.has ∙ ap (λ (set : List Role). has set c.args.junior) c.below.ensures
    ∙ c.self.invariant.closure c.args.senior c.args.junior
    ∙ ap (λ (now : RoleData). reaches now.pairs c.args.senior c.args.junior) c.self.view_is
