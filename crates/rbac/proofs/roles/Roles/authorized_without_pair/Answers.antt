use Rattle.std.proofs.Common.{Some, sym, ap, ◌∙◌}
use Rattle.rbac.specs.Kept.{data_of}
use Rattle.rbac.specs.RoleData.{RoleData, delete_inheritance}
use Rattle.rbac.specs.Authorization.{authorized_roles}
use Rattle.rbac.proofs.AccountLemmas.{found_at}
use Rattle.rbac.proofs.AuthorizationLemmas.{by_table, none_authorized, authorized_is}
use Rattle.rbac.proofs.roles.Roles.authorized_without_pair.Goals as goal

pub returns-in_err-place-clause-roles : goal.returns-in_err-place-clause-roles
returns-in_err-place-clause-roles c =
    c.from_residual.ensures
    ∙ sym (none_authorized (delete_inheritance (data_of c.self.inside) c.args.pair.senior c.args.pair.junior)
    c.args.name.now (rw c.deref.ensures.value at c.in_err-place.ensures.none))
    ∙ ap (λ now. authorized_roles (delete_inheritance now c.args.pair.senior c.args.pair.junior) c.args.name.now)
    c.self.view_is

pub returns-clause-roles : goal.returns-clause-roles
returns-clause-roles c =
    let at = found_at c.deref.result.now c.self.inside.accounts.items c.args.name.now c.in_ok-place.place
    c.deref.ensures.value c.in_ok-place.ensures.within c.in_ok-place.ensures.found in
    let now : RoleData = delete_inheritance (data_of c.self.inside) c.args.pair.senior c.args.pair.junior in
    ap Some (c.reached_from.ensures ∙ by_table now c.args.name.now c.in_ok-place.place at c.self.invariant.valid.names
    c.of_all_but-hierarchy.result.reached c.index.result.now
    (rw c.deref-2.ensures.value at c.of_all_but-hierarchy.ensures) c.index.ensures)
    ∙ sym (authorized_is now c.args.name.now c.in_ok-place.place at c.self.invariant.valid.names c.index.result.now)
    ∙ ap (λ now. authorized_roles (delete_inheritance now c.args.pair.senior c.args.pair.junior) c.args.name.now)
    c.self.view_is
