-- What is done to the set of the roles' places is done to the set of roles.
use Rattle.std.proofs.Common.{◌≡◌, ℕ, ◌≤◌, List, [], nat_eq, arith, refl, sym, ap, ◌∙◌, inl, inr}
use Rattle.std.specs.Prelude.{◌||◌, ◌&&◌, not}
use Rattle.std.specs.Cmp.Lexicographic.{pointwise, pointwise_decides}
use Rattle.std.proofs.lemmas.Bool.{cases_eq, eq-eqb, ne_eqb}
use Rattle.std.proofs.lemmas.Bool.Decides.{same_from_decides, Decides-eqb, Decides-like}
use Rattle.small_sets.specs.Numbers.{has_number, with_number, without_number, numbers_of_both, IsSetUpTo}
use Rattle.small_sets.proofs.NumbersLemmas.{has_with_number, has_without_number, has_number_of_both}
use Rattle.session_roles.specs.declared.role.Role.{Role}
use Rattle.session_roles.specs.declared.role.TheConstants.Role.{COUNT}
use Rattle.session_roles.specs.Role.{
  role_number,
  roles_that,
  same_role,
  has,
  IsListed,
  with_role,
  without_role,
  union_of,
}
use Rattle.session_roles.specs.RoleNumbers.{role_place, roles_of_numbers, numbers_of_roles, numbers_of_roles_of_numbers}
use Rattle.session_roles.proofs.RoleLemmas.{
  each_role,
  same_role_decides,
  has_roles_that,
  same_roles_that,
  listed_roles_that,
}

-- a role's place is a number of the set
pub place_from : (role : Role) → 1 ≤ role_place role
place_from role = omega arith

pub place_to : (role : Role) → role_place role ≤ COUNT
place_to =
    each_role (λ role. role_place role ≤ COUNT) (omega arith) (omega arith) (omega arith) (omega arith) (omega arith)
    (omega arith) (omega arith)

-- places are one where the roles are
same_place : (role other : Role) → nat_eq (role_place other) (role_place role) ≡ same_role role other
same_place role other =
    elim (cases_eq (role_number role) (role_number other)) [
      | inl same ↦ eq-eqb _ _ (omega arith) ∙ sym (eq-eqb (role_number role) (role_number other) same)
      | inr apart ↦ ne_eqb _ _ (λ same. apart (omega arith)) ∙ sym (ne_eqb (role_number role) (role_number other) apart)
    ]

pub has_roles_of_numbers : (numbers : List ℕ) (role : Role) →
    has_number numbers (role_place role) ≡ has (roles_of_numbers numbers) role
unfolding roles_of_numbers
has_roles_of_numbers numbers role = sym (has_roles_that (λ other. has_number numbers (role_place other)) role)

pub listed_roles_of_numbers : (numbers : List ℕ) → IsListed (roles_of_numbers numbers)
unfolding roles_of_numbers
listed_roles_of_numbers numbers = listed_roles_that (λ role. has_number numbers (role_place role))

-- no number, no role
pub none_of_none : roles_of_numbers [] ≡ []
unfolding roles_of_numbers roles_that
none_of_none = refl

-- a place that is added adds its role
pub place_added : (numbers : List ℕ) (role : Role) →
    roles_of_numbers (with_number COUNT numbers (role_place role)) ≡ with_role (roles_of_numbers numbers) role
unfolding roles_of_numbers
place_added numbers role =
    same_roles_that _ (λ other. same_role role other || has (roles_of_numbers numbers) other) (λ other.
    has_with_number COUNT numbers (role_place role) (role_place other) (place_from other) (place_to other)
    ∙ (λ i. same_place role other i || has_roles_of_numbers numbers other i))

-- a place that is taken away takes its role away
pub place_removed : (numbers : List ℕ) (role : Role) →
    roles_of_numbers (without_number COUNT numbers (role_place role)) ≡ without_role (roles_of_numbers numbers) role
unfolding roles_of_numbers
place_removed numbers role =
    same_roles_that _ (λ other. not (same_role role other) && has (roles_of_numbers numbers) other) (λ other.
    has_without_number COUNT numbers (role_place role) (role_place other) (place_from other) (place_to other)
    ∙ (λ i. not (same_place role other i) && has_roles_of_numbers numbers other i))

-- the places of both sets are those of the roles of both
pub places_of_both : (a b : List ℕ) →
    roles_of_numbers (numbers_of_both COUNT a b) ≡ union_of (roles_of_numbers a) (roles_of_numbers b)
unfolding roles_of_numbers
places_of_both a b =
    same_roles_that _ (λ role. has (roles_of_numbers a) role || has (roles_of_numbers b) role) (λ role.
    has_number_of_both COUNT a b (role_place role) (place_from role) (place_to role)
    ∙ (λ i. has_roles_of_numbers a role i || has_roles_of_numbers b role i))

-- sets of places are equal where their roles are
pub same_places : (a b : List ℕ) → IsSetUpTo COUNT a → IsSetUpTo COUNT b →
    pointwise nat_eq a b ≡ pointwise same_role (roles_of_numbers a) (roles_of_numbers b)
same_places a b set_a set_b =
    same_from_decides (pointwise nat_eq a b) (pointwise same_role (roles_of_numbers a) (roles_of_numbers b))
    (pointwise_decides Decides-eqb a b)
    (Decides-like _
    (λ same. sym (numbers_of_roles_of_numbers a set_a) ∙ ap numbers_of_roles same ∙ numbers_of_roles_of_numbers b set_b)
    (λ same. ap roles_of_numbers same)
    (pointwise_decides same_role_decides (roles_of_numbers a) (roles_of_numbers b)))
