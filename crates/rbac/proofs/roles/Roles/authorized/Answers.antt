use Rattle.std.proofs.Common.{Some, sym, ap, subst, ◌∙◌}
use Rattle.rbac.specs.Kept.{data_of}
use Rattle.rbac.specs.RoleData.{RoleData}
use Rattle.rbac.specs.Authorization.{authorized_roles, AreAuthorized}
use Rattle.rbac.proofs.AccountLemmas.{found_at}
use Rattle.rbac.proofs.AuthorizationLemmas.{authorized_is, are_authorized, by_table, none_authorized}
use Rattle.rbac.proofs.roles.Roles.authorized.Goals as goal

pub returns-in_err-place-clause-roles : goal.returns-in_err-place-clause-roles
returns-in_err-place-clause-roles c =
    c.from_residual.ensures
    ∙ sym (none_authorized (data_of c.self.inside) c.args.name.now
    (rw c.deref.ensures.value at c.in_err-place.ensures.none))
    ∙ ap (λ now. authorized_roles now c.args.name.now) c.self.view_is

pub returns-clause-roles : goal.returns-clause-roles
returns-clause-roles c =
    let at = found_at c.deref.result.now c.self.inside.accounts.items c.args.name.now c.in_ok-place.place
    c.deref.ensures.value c.in_ok-place.ensures.within c.in_ok-place.ensures.found in
    let now : RoleData = data_of c.self.inside in
    ap Some (c.reached_from.ensures ∙ by_table now c.args.name.now c.in_ok-place.place at c.self.invariant.valid.names
    c.self.inside.hierarchy.reached c.index.result.now c.self.invariant.closure c.index.ensures)
    ∙ sym (authorized_is now c.args.name.now c.in_ok-place.place at c.self.invariant.valid.names c.index.result.now)
    ∙ ap (λ now. authorized_roles now c.args.name.now) c.self.view_is

pub returns-clause-exact : goal.returns-clause-exact
returns-clause-exact c =
    let at = found_at c.deref.result.now c.self.inside.accounts.items c.args.name.now c.in_ok-place.place
    c.deref.ensures.value c.in_ok-place.ensures.within c.in_ok-place.ensures.found in
    let now : RoleData = data_of c.self.inside in
    let is = c.reached_from.ensures ∙ by_table now c.args.name.now c.in_ok-place.place at c.self.invariant.valid.names
    c.self.inside.hierarchy.reached c.index.result.now c.self.invariant.closure c.index.ensures in
    subst (λ now. AreAuthorized now c.args.name.now c.reached_from.result) c.self.view_is
    (subst (λ set. AreAuthorized now c.args.name.now set) (sym is)
    (are_authorized now c.args.name.now c.in_ok-place.place at c.self.invariant.valid.names c.index.result.now))
