use Rattle.std.proofs.Common.{List, sym, ap, subst, ◌∙◌}
use Rattle.rbac.specs.declared.account.Account.{Account}
use Rattle.rbac.specs.declared.deassign_error.DeassignError.{DeassignError}
use Rattle.rbac.specs.declared.deassign_error.DeassignError.TheVariants.{NoSuchUser}
use Rattle.rbac.specs.Kept.{data_of}
use Rattle.rbac.specs.Refusals.{RefusesDeassignment}
use Rattle.session_roles.specs.Role.{without_role}
use Rattle.rbac.specs.RoleData.{RoleData, deassign_user}
use Rattle.rbac.specs.Authorization.{IsValid}
use Rattle.rbac.proofs.AccountLemmas.{found_at, no_account}
use Rattle.rbac.proofs.RefusalLemmas.{write_is_change, valid_deassignment}
use Rattle.rbac.proofs.roles.Roles.deassign_unrefused.Goals as goal

pub invariant_of-self : goal.invariant_of-self
invariant_of-self c =
    let state : RoleData = data_of c.self.inside in
    let at = found_at c.deref.result.now state.accounts c.args.name.now c.in-Some.place c.deref.ensures.value
    c.in-Some.ensures.within c.in-Some.ensures.found in
    let write = write_is_change (λ set. without_role set c.args.role) c.args.name.now state.accounts c.in-Some.place at
    c.self.invariant.valid.names c.index.result.now c.index_mut.result.now c.without-fewer.result c.index.ensures
    c.index_mut.ensures.value c.without-fewer.ensures in
    record {
      valid = subst (λ (accounts : List Account). IsValid
          (record state { accounts = accounts })) (sym write)
          (valid_deassignment state c.args.name.now c.args.role c.in-Some.place at c.self.invariant.valid
          c.index.result.now);
      closure = c.self.invariant.closure;
      users = c.self.invariant.users;
      room = c.self.invariant.room;
    }

pub returns-in-Some : goal.returns-in-Some
returns-in-Some c =
    let state : RoleData = data_of c.self.inside in
    let at = found_at c.deref.result.now state.accounts c.args.name.now c.in-Some.place c.deref.ensures.value
    c.in-Some.ensures.within c.in-Some.ensures.found in
    let write = write_is_change (λ set. without_role set c.args.role) c.args.name.now state.accounts c.in-Some.place at
    c.self.invariant.valid.names c.index.result.now c.index_mut.result.now c.without-fewer.result c.index.ensures
    c.index_mut.ensures.value c.without-fewer.ensures in
    ap (λ (accounts : List Account). let now : RoleData = record state { accounts = accounts } in now) write
    ∙ ap (λ (now : RoleData). deassign_user now c.args.name.now c.args.role) c.self.view_is

pub returns-in_default : goal.returns-in_default
returns-in_default c =
    let unrefused = subst (λ (state : RoleData). (cause : DeassignError) → ¬ RefusesDeassignment state c.args.name.now
    c.args.role cause) (sym c.self.view_is) c.requires in
    absurd (unrefused NoSuchUser (no_account c.self.inside.accounts.items c.args.name.now
    (rw c.deref.ensures.value at c.in_default.ensures.none)))
