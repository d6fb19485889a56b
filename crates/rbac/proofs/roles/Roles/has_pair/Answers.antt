use Rattle.std.proofs.Common.{List, ap, ◌∙◌}
use Rattle.std.specs.List.{list_any}
use Rattle.rbac.specs.declared.inheritance.Inheritance.{Inheritance}
use Rattle.rbac.specs.Inheritance.{pair_of, same_inheritance}
use Rattle.rbac.specs.Review.{has_pair}
use Rattle.rbac.specs.RoleData.{RoleData}
use Rattle.rbac.proofs.ReviewLemmas.{either_way}
use Rattle.rbac.proofs.roles.Roles.has_pair.Goals as goal

pub returns : goal.returns
returns c =
    let pair : Inheritance = pair_of c.args.senior c.args.junior in
    c.contains.ensures.value
    ∙ ap (λ (pairs : List Inheritance). list_any (λ other. same_inheritance other pair) pairs) c.deref.ensures.value
    ∙ either_way c.self.inside.pairs.items pair
    ∙ ap (λ (now : RoleData). has_pair now c.args.senior c.args.junior) c.self.view_is
