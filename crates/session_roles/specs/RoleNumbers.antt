-- Sets of roles as the sets of their places: a set of numbers gives its roles, and the roles give the numbers back.
use Rattle.std.specs.Prelude.{◌≡◌, ℕ, ◌+◌, Bool, true, false, cond, List, [], ◌∷◌, filter, map, refl}
use Rattle.std.proofs.Common.{sym, ◌∙◌}
use Rattle.small_sets.specs.Numbers.{has_number, IsSetUpTo}
use Rattle.session_roles.specs.declared.role.Role.{Role}
use Rattle.session_roles.specs.declared.role.TheConstants.Role.{COUNT}
use Rattle.session_roles.specs.Role.{roles, role_number, roles_that}

-- a role's place among them, counted from 1
abbrev pub role_place : Role → ℕ
role_place role = role_number role + 1

-- the roles whose places are among the numbers
unfoldable pub roles_of_numbers : List ℕ → List Role
roles_of_numbers numbers = roles_that (λ role. has_number numbers (role_place role))

-- the places of these roles
unfoldable pub numbers_of_roles : List Role → List ℕ
numbers_of_roles set = map role_place set

-- the places of roles that pass a test are the places that do
map_cond : (b : Bool) (role : Role) (set : List Role) →
    map role_place (cond b (role ∷ set) set) ≡ cond b (role_place role ∷ map role_place set) (map role_place set)
map_cond true role set = refl
map_cond false role set = refl

places_that : (test : ℕ → Bool) (set : List Role) →
    map role_place (filter (λ role. test (role_place role)) set) ≡ filter test (map role_place set)
places_that test [] = refl
places_that test (role ∷ set) =
    let rest = places_that test set in
    map_cond (test (role_place role)) role (filter (λ role. test (role_place role)) set)
    ∙ (λ i. cond (test (role_place role)) (role_place role ∷ rest i) (rest i))

-- a set of places is given back by its roles
pub numbers_of_roles_of_numbers : (numbers : List ℕ) → IsSetUpTo COUNT numbers →
    numbers_of_roles (roles_of_numbers numbers) ≡ numbers
unfolding roles_of_numbers numbers_of_roles roles_that
numbers_of_roles_of_numbers numbers is_set = places_that (has_number numbers) roles ∙ sym is_set
