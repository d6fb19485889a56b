use Rattle.std.proofs.Common.{List, sym, ap, subst, ◌∙◌, arith}
use Rattle.rbac.specs.declared.inheritance.Inheritance.{Inheritance}
use Rattle.rbac.specs.Kept.{data_of}
use Rattle.rbac.specs.RoleData.{RoleData, delete_inheritance}
use Rattle.rbac.specs.Authorization.{IsValid}
use Rattle.rbac.proofs.ValidityLemmas.{valid_delete_inheritance}
use Rattle.rbac.proofs.roles.Roles.delete_inheritance_unrefused.Goals as goal

pub invariant_of-self : goal.invariant_of-self
invariant_of-self c =
    let state : RoleData = data_of c.self.inside in
    record {
      valid = subst (λ (pairs : List Inheritance). IsValid
          (record state { pairs = pairs })) (sym c.remove_from.ensures.items)
          (valid_delete_inheritance state c.args.senior c.args.junior c.self.invariant.valid);
      closure = rw (c.remove_from.ensures.items, ← c.deref.ensures.value) c.of_all_but-self-inside.ensures;
      users = c.self.invariant.users;
      room = omega (arith, c.self.invariant.room);
    }

pub returns : goal.returns
returns c =
    let state : RoleData = data_of c.self.inside in
    ap (λ (pairs : List Inheritance). let now : RoleData = record state { pairs = pairs } in now) c.remove_from.ensures.items
    ∙ ap (λ (now : RoleData). delete_inheritance now c.args.senior c.args.junior) c.self.view_is
