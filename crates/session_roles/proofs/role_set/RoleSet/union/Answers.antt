use Rattle.std.proofs.Common.{sym, ap, ◌∙◌, subst}
use Rattle.small_sets.specs.Numbers.{IsSetUpTo}
use Rattle.small_sets.proofs.NumbersLemmas.{set_of_both}
use Rattle.session_roles.specs.declared.role.TheConstants.Role.{COUNT}
use Rattle.session_roles.specs.Role.{union_of}
use Rattle.session_roles.specs.RoleNumbers.{roles_of_numbers}
use Rattle.session_roles.proofs.RoleNumbersLemmas.{places_of_both}
use Rattle.session_roles.proofs.role_set.RoleSet.union.Goals as goal

pub invariant_of-result : goal.invariant_of-result
invariant_of-result c =
    subst (IsSetUpTo COUNT) (sym c.union.ensures) (set_of_both COUNT c.self.inside.places c.other.inside.places)

pub returns : goal.returns
returns c =
    ap roles_of_numbers c.union.ensures
    ∙ places_of_both c.self.inside.places c.other.inside.places
    ∙ (λ i. union_of (c.self.view_is i) (c.other.view_is i))
