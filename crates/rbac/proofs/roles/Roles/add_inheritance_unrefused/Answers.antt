use Rattle.std.proofs.Common.{List, sym, subst, arith}
use Rattle.rbac.specs.declared.add_inheritance_error.AddInheritanceError.{AddInheritanceError}
use Rattle.rbac.specs.declared.add_inheritance_error.AddInheritanceError.TheVariants.{Cycle, AlreadyThere, Separation}
use Rattle.rbac.specs.declared.inheritance.Inheritance.{Inheritance}
use Rattle.rbac.specs.Kept.{data_of}
use Rattle.rbac.specs.Inheritance.{pair_of}
use Rattle.rbac.specs.Refusals.{RefusesInheritance}
use Rattle.rbac.specs.RoleData.{RoleData}
use Rattle.rbac.specs.Authorization.{IsValid}
use Rattle.rbac.proofs.HierarchyLemmas.{closure_push}
use Rattle.rbac.proofs.PairLemmas.{room_for_pair}
use Rattle.rbac.proofs.RefusalLemmas.{absent_pair}
use Rattle.rbac.proofs.ValidityLemmas.{valid_add_inheritance}
use Rattle.rbac.proofs.roles.Roles.add_inheritance_unrefused.Goals as goal

pub push_reserved-requires : goal.push_reserved-requires
push_reserved-requires c =
    let state : RoleData = data_of c.self.inside in
    let unrefused = subst (λ (state : RoleData). (cause : AddInheritanceError) → ¬ RefusesInheritance state
    c.args.senior c.args.junior cause) (sym c.self.view_is) c.requires in
    let room = room_for_pair state.pairs (pair_of c.args.senior c.args.junior) c.self.invariant.valid.once
    (absent_pair state.pairs (pair_of c.args.senior c.args.junior) (unrefused AlreadyThere)) in
    omega (arith, room, c.self.invariant.room, c.self.inside.pairs.ok)

pub invariant_of-self : goal.invariant_of-self
invariant_of-self c =
    let state : RoleData = data_of c.self.inside in
    let unrefused = subst (λ (state : RoleData). (cause : AddInheritanceError) → ¬ RefusesInheritance state
    c.args.senior c.args.junior cause) (sym c.self.view_is) c.requires in
    let new = absent_pair state.pairs (pair_of c.args.senior c.args.junior) (unrefused AlreadyThere) in
    let closure = closure_push state.pairs c.self.inside.hierarchy.reached c.with-self-inside.result.reached
    (pair_of c.args.senior c.args.junior) c.self.invariant.closure c.with-self-inside.ensures in
    record {
      valid = subst (λ (pairs : List Inheritance). IsValid
          (record state { pairs = pairs })) (sym c.push_reserved.ensures.items)
          (valid_add_inheritance state c.args.senior c.args.junior c.self.invariant.valid (unrefused Cycle) new
          (λ set. unrefused (Separation set)));
      closure = rw c.push_reserved.ensures.items closure;
      users = c.self.invariant.users;
      room = omega (arith, c.self.invariant.room);
    }
