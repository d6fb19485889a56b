use Rattle.std.proofs.Common.{◌≡◌, ◌∙◌, ◌++◌, sym, subst, arith}
use Rattle.rbac.specs.Hierarchy.{IsClosure}
use Rattle.rbac.specs.Inheritance.{opening_pairs}
use Rattle.rbac.proofs.ValidityLemmas.{valid_opening}
use Rattle.rbac.proofs.roles.Roles.new.Goals as goal

pub invariant_of-result : goal.invariant_of-result
invariant_of-result c =
    let pairs : c.extend_from_slice.new.self.items ≡ opening_pairs c.args.edition =
    c.in_ok-extend_from_slice.ensures.items ∙ (λ i. c.in_ok-pairs.ensures.items i ++ c.opening.ensures i) in
    record {
      valid = rw (c.in_ok-accounts.ensures.items, pairs) (valid_opening c.args.edition);
      closure = subst (λ all. IsClosure all c.opening-2.result.reached) (sym pairs) c.opening-2.ensures;
      users = omega (arith, c.in_ok-accounts.ensures.capacity);
      room = omega (arith, c.in_ok-pairs.ensures.capacity, c.in_ok-extend_from_slice.ensures.capacity);
    }
