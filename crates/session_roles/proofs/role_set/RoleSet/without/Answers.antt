use Rattle.std.proofs.Common.{◌+◌, sym, ap, ◌∙◌, subst}
use Rattle.small_sets.specs.Numbers.{without_number, IsSetUpTo}
use Rattle.small_sets.proofs.NumbersLemmas.{set_without}
use Rattle.session_roles.specs.declared.role.TheConstants.Role.{COUNT}
use Rattle.session_roles.specs.Role.{without_role}
use Rattle.session_roles.specs.RoleNumbers.{roles_of_numbers}
use Rattle.session_roles.proofs.RoleNumbersLemmas.{place_removed}
use Rattle.session_roles.proofs.role_set.RoleSet.without.Goals as goal

pub invariant_of-result : goal.invariant_of-result
invariant_of-result c =
    subst (IsSetUpTo COUNT) (sym c.remove.ensures) (set_without COUNT c.self.inside.places (c.number.result + 1))

pub returns : goal.returns
returns c =
    let places = c.self.inside.places in
    ap roles_of_numbers (c.remove.ensures ∙ ap (λ n. without_number COUNT places (n + 1)) c.number.ensures.number)
    ∙ place_removed places c.args.role
    ∙ ap (λ set. without_role set c.args.role) c.self.view_is
