use Rattle.std.proofs.Common.{◌+◌, sym, ap, ◌∙◌, subst}
use Rattle.small_sets.specs.Numbers.{with_number, IsSetUpTo}
use Rattle.small_sets.proofs.NumbersLemmas.{set_with}
use Rattle.session_roles.specs.declared.role.TheConstants.Role.{COUNT}
use Rattle.session_roles.specs.Role.{with_role}
use Rattle.session_roles.specs.RoleNumbers.{roles_of_numbers}
use Rattle.session_roles.proofs.RoleNumbersLemmas.{place_added}
use Rattle.session_roles.proofs.role_set.RoleSet.with.Goals as goal

pub invariant_of-result : goal.invariant_of-result
invariant_of-result c =
    subst (IsSetUpTo COUNT) (sym c.insert.ensures) (set_with COUNT c.self.inside.places (c.number.result + 1))

pub returns : goal.returns
returns c =
    let places = c.self.inside.places in
    ap roles_of_numbers (c.insert.ensures ∙ ap (λ n. with_number COUNT places (n + 1)) c.number.ensures.number)
    ∙ place_added places c.args.role
    ∙ ap (λ set. with_role set c.args.role) c.self.view_is
