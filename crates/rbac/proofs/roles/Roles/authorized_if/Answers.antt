use Rattle.std.proofs.Common.{sym, ap, ◌∙◌}
use Rattle.rbac.specs.RoleData.{after_change}
use Rattle.rbac.specs.Authorization.{authorized_roles}
use Rattle.rbac.proofs.LawLemmas.{exact_after, some_after, none_after}
use Rattle.rbac.proofs.roles.Roles.authorized_if.Goals as goal

pub returns-in-Deassign-clause-exact : goal.returns-in-Deassign-clause-exact
returns-in-Deassign-clause-exact c =
    exact_after c.args.self.now c.args.change c.args.name.now c.authorized_without_role.result
    c.authorized_without_role.ensures.valid
    (c.authorized_without_role.ensures.roles ∙ ap (λ change. authorized_roles (after_change c.args.self.now change)
    c.args.name.now) (sym c.in-Deassign.is))

pub returns-in-Deassign-clause-some : goal.returns-in-Deassign-clause-some
returns-in-Deassign-clause-some c =
    some_after c.args.self.now c.args.change c.args.name.now c.authorized_without_role.result
    c.authorized_without_role.ensures.valid
    (c.authorized_without_role.ensures.roles ∙ ap (λ change. authorized_roles (after_change c.args.self.now change)
    c.args.name.now) (sym c.in-Deassign.is))

pub returns-in-Deassign-clause-none : goal.returns-in-Deassign-clause-none
returns-in-Deassign-clause-none c =
    none_after c.args.self.now c.args.change c.args.name.now c.authorized_without_role.result
    c.authorized_without_role.ensures.valid
    (c.authorized_without_role.ensures.roles ∙ ap (λ change. authorized_roles (after_change c.args.self.now change)
    c.args.name.now) (sym c.in-Deassign.is))

pub returns-in-DeleteInheritance-clause-exact : goal.returns-in-DeleteInheritance-clause-exact
returns-in-DeleteInheritance-clause-exact c =
    exact_after c.args.self.now c.args.change c.args.name.now c.authorized_without_pair.result
    c.authorized_without_pair.ensures.valid
    (c.authorized_without_pair.ensures.roles ∙ ap (λ change. authorized_roles (after_change c.args.self.now change)
    c.args.name.now) (sym c.in-DeleteInheritance.is))

pub returns-in-DeleteInheritance-clause-some : goal.returns-in-DeleteInheritance-clause-some
returns-in-DeleteInheritance-clause-some c =
    some_after c.args.self.now c.args.change c.args.name.now c.authorized_without_pair.result
    c.authorized_without_pair.ensures.valid
    (c.authorized_without_pair.ensures.roles ∙ ap (λ change. authorized_roles (after_change c.args.self.now change)
    c.args.name.now) (sym c.in-DeleteInheritance.is))

pub returns-in-DeleteInheritance-clause-none : goal.returns-in-DeleteInheritance-clause-none
returns-in-DeleteInheritance-clause-none c =
    none_after c.args.self.now c.args.change c.args.name.now c.authorized_without_pair.result
    c.authorized_without_pair.ensures.valid
    (c.authorized_without_pair.ensures.roles ∙ ap (λ change. authorized_roles (after_change c.args.self.now change)
    c.args.name.now) (sym c.in-DeleteInheritance.is))
