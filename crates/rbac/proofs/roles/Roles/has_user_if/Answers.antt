use Rattle.std.proofs.Common.{List, sym, ap, ◌∙◌}
use Rattle.std.specs.List.{list_any}
use Rattle.rbac.specs.declared.account.Account.{Account}
use Rattle.rbac.specs.Hierarchy.{reached_from}
use Rattle.rbac.specs.Inheritance.{pair_of, without_pair}
use Rattle.rbac.specs.Kept.{data_of}
use Rattle.rbac.specs.Review.{assigned_without, has_user_for}
use Rattle.session_roles.specs.Role.{has}
use Rattle.rbac.specs.RoleData.{RoleData, deassign_user, delete_inheritance, after_change}
use Rattle.rbac.proofs.ReviewLemmas.{user_by_table, user_without}
use Rattle.rbac.proofs.roles.Roles.has_user_if.Goals as goal

pub returns-in-Deassign : goal.returns-in-Deassign
returns-in-Deassign c =
    let state : RoleData = data_of c.self.inside in
    let table = c.self.inside.hierarchy.reached in
    c.has_user_for_without.ensures
    ∙ ap (λ (accounts : List Account). list_any
    (λ account. has (reached_from table (assigned_without account c.in-Deassign.name.now c.in-Deassign.taken))
    c.args.role) accounts) c.deref.ensures.value
    ∙ user_without state.pairs table c.self.invariant.closure state.accounts state.edition c.args.role c.in-Deassign.name.now
    c.in-Deassign.taken
    ∙ ap (λ (now : RoleData). has_user_for (deassign_user now c.in-Deassign.name.now c.in-Deassign.taken) c.args.role)
    c.self.view_is
    ∙ ap (λ change. has_user_for (after_change c.args.self.now change) c.args.role) (sym c.in-Deassign.is)

pub returns-in-DeleteInheritance : goal.returns-in-DeleteInheritance
returns-in-DeleteInheritance c =
    let state : RoleData = data_of c.self.inside in
    let senior = c.in-DeleteInheritance.senior in
    let junior = c.in-DeleteInheritance.junior in
    let table = c.of_all_but.result.reached in
    let closure = rw c.deref-in-DeleteInheritance-2.ensures.value at c.of_all_but.ensures in
    c.has_user_for.ensures
    ∙ ap (λ (accounts : List Account). list_any (λ account. has (reached_from table account.assigned) c.args.role)
    accounts) c.deref-in-DeleteInheritance.ensures.value
    ∙ user_by_table (without_pair state.pairs (pair_of senior junior)) table closure state.accounts state.edition c.args.role
    ∙ ap (λ (now : RoleData). has_user_for (delete_inheritance now senior junior) c.args.role) c.self.view_is
    ∙ ap (λ change. has_user_for (after_change c.args.self.now change) c.args.role) (sym c.in-DeleteInheritance.is)
