use Rattle.std.proofs.Common.{Some, sym, ap, ◌∙◌}
use Rattle.std.proofs.lemmas.Bool.{false≢true}
use Rattle.rbac.specs.Kept.{data_of}
use Rattle.rbac.specs.RoleData.{RoleData, deassign_user}
use Rattle.rbac.specs.declared.account.Account.{Account}
use Rattle.session_roles.specs.Role.{without_role}
use Rattle.rbac.specs.Authorization.{authorized_roles, reached}
use Rattle.rbac.proofs.AccountLemmas.{found_at, same_name_decides}
use Rattle.rbac.proofs.AuthorizationLemmas.{
  by_table,
  none_deassigned,
  own_deassigned,
  other_deassigned,
  closure_reached,
}
use Rattle.rbac.proofs.roles.Roles.authorized_without_role.Goals as goal

pub returns-in_err-place-clause-roles : goal.returns-in_err-place-clause-roles
returns-in_err-place-clause-roles c =
    c.from_residual.ensures
    ∙ sym (none_deassigned (data_of c.self.inside) c.args.other.now c.args.role c.args.name.now
    (rw c.deref.ensures.value at c.in_err-place.ensures.none))
    ∙ ap (λ now. authorized_roles (deassign_user now c.args.other.now c.args.role) c.args.name.now) c.self.view_is

pub returns-then-eq-clause-roles : goal.returns-then-eq-clause-roles
returns-then-eq-clause-roles c =
    let at = found_at c.deref.result.now c.self.inside.accounts.items c.args.name.now c.in_ok-place.place
    c.deref.ensures.value c.in_ok-place.ensures.within c.in_ok-place.ensures.found in
    let now : RoleData = data_of c.self.inside in
    ap Some (c.reached_from.ensures ∙ closure_reached now.pairs c.self.inside.hierarchy.reached _
    c.self.invariant.closure ∙ ap (reached now.pairs)
    (c.without.ensures ∙ ap (λ (account : Account). without_role account.assigned c.args.role) c.index.ensures))
    ∙ sym (own_deassigned now c.args.name.now c.in_ok-place.place at c.self.invariant.valid.names c.args.other.now
    c.args.role c.index.result.now ((same_name_decides _ _).0 (sym c.eq.ensures ∙ c.if-eq.true)))
    ∙ ap (λ now. authorized_roles (deassign_user now c.args.other.now c.args.role) c.args.name.now) c.self.view_is

pub returns-clause-roles : goal.returns-clause-roles
returns-clause-roles c =
    let at = found_at c.deref.result.now c.self.inside.accounts.items c.args.name.now c.in_ok-place.place
    c.deref.ensures.value c.in_ok-place.ensures.within c.in_ok-place.ensures.found in
    let now : RoleData = data_of c.self.inside in
    ap Some (c.reached_from-2.ensures ∙ by_table now c.args.name.now c.in_ok-place.place at c.self.invariant.valid.names
    c.self.inside.hierarchy.reached c.index.result.now c.self.invariant.closure c.index.ensures)
    ∙ sym (other_deassigned now c.args.name.now c.in_ok-place.place at c.self.invariant.valid.names c.args.other.now
    c.args.role c.index.result.now (λ same. false≢true (sym c.if-eq.false ∙ c.eq.ensures ∙ (same_name_decides _ _).1
    same)))
    ∙ ap (λ now. authorized_roles (deassign_user now c.args.other.now c.args.role) c.args.name.now) c.self.view_is
