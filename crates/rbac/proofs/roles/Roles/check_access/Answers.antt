use Rattle.std.proofs.Common.{sym, ap, ◌∙◌}
use Rattle.session_roles.specs.Operation.{is_operation_of}
use Rattle.rbac.specs.RoleData.{RoleData}
use Rattle.rbac.proofs.AuthorizationLemmas.{decides_permission}
use Rattle.rbac.proofs.roles.Roles.check_access.Goals as goal

pub returns-in-Some-clause-permission : goal.returns-in-Some-clause-permission
returns-in-Some-clause-permission c =
    let known = sym (ap (λ (now : RoleData). is_operation_of now.edition c.args.operation) c.self.view_is)
    ∙ sym c.is_of.ensures ∙ c.if-not-is_of.false in
    let decides = decides_permission c.args.self.now c.args.name.now c.in-Some.roles c.args.operation
    c.in-Some.ensures.exact in
    rw c.is_permitted_by.ensures
    (λ permitted. (known, decides.0 permitted), λ permission. decides.1 permission.1)
