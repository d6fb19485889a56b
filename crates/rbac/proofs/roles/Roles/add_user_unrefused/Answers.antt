use Rattle.std.proofs.Common.{List, ◌∷◌, [], ◌++◌, sym, subst, ◌∙◌, arith}
use Rattle.rbac.specs.declared.account.Account.{Account}
use Rattle.rbac.specs.declared.add_user_error.AddUserError.{AddUserError}
use Rattle.rbac.specs.Kept.{data_of}
use Rattle.rbac.specs.Refusals.{RefusesUser}
use Rattle.rbac.specs.RoleData.{RoleData}
use Rattle.rbac.specs.Authorization.{IsValid}
use Rattle.rbac.proofs.RefusalLemmas.{room_for_another, valid_added}
use Rattle.rbac.proofs.roles.Roles.add_user_unrefused.Goals as goal

pub push_reserved-requires : goal.push_reserved-requires
push_reserved-requires c =
    let state : RoleData = data_of c.self.inside in
    let unrefused = subst (λ (state : RoleData). (cause : AddUserError) → ¬ RefusesUser state c.args.name cause)
    (sym c.self.view_is) c.requires in
    let room = room_for_another state c.args.name c.self.invariant.valid unrefused in
    omega (arith, room, c.self.invariant.users)

pub invariant_of-self : goal.invariant_of-self
invariant_of-self c =
    let state : RoleData = data_of c.self.inside in
    let unrefused = subst (λ (state : RoleData). (cause : AddUserError) → ¬ RefusesUser state c.args.name cause)
    (sym c.self.view_is) c.requires in
    let account = c.push_reserved.ensures.items
    ∙ (λ i. state.accounts ++ record { name = c.args.name; assigned = c.new.ensures i } ∷ []) in
    record {
      valid = subst (λ (accounts : List Account). IsValid
          (record state { accounts = accounts })) (sym account)
          (valid_added state c.args.name c.self.invariant.valid unrefused);
      closure = c.self.invariant.closure;
      users = omega (arith, c.self.invariant.users);
      room = c.self.invariant.room;
    }
