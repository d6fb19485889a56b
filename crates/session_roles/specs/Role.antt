-- The roles of a session (core RBAC of INCITS 359-2012), and sets of them as lists in the order of the roles.
use Rattle.std.specs.Prelude.{◌≡◌, ℕ, Bool, ◌||◌, ◌&&◌, not, nat_eq, List, [], ◌∷◌, filter}
use Rattle.std.specs.List.{list_any}
use Rattle.session_roles.specs.declared.edition.Edition.{Edition}
use Rattle.session_roles.specs.declared.role.Role.{Role}
use Rattle.session_roles.specs.declared.role.Role.TheVariants.{
  Member,
  Spectator,
  Contestant,
  Scorer,
  Director,
  Administrator,
  Commentator,
}
use Rattle.session_roles.specs.Edition.{has_what_came_with}
use Rattle.session_roles.specs.RoleRow.{role_row}

-- the roles in their order
abbrev pub roles : List Role
roles = Member ∷ Spectator ∷ Contestant ∷ Scorer ∷ Director ∷ Administrator ∷ Commentator ∷ []

-- a role's place among them, counted from 0
abbrev pub role_number : Role → ℕ
role_number Member = 0
role_number Spectator = 1
role_number Contestant = 2
role_number Scorer = 3
role_number Director = 4
role_number Administrator = 5
role_number Commentator = 6

abbrev pub role_name : Role → List ℕ
role_name role = (role_row role).name

-- whether an edition knows the role
abbrev pub is_role_of : Edition → Role → Bool
is_role_of edition role = has_what_came_with edition (role_row role).since

-- the roles that an edition knows, in their order
unfoldable pub roles_of : Edition → List Role
roles_of edition = filter (is_role_of edition) roles

-- whether two roles are one
abbrev pub same_role : Role → Role → Bool
same_role a b = nat_eq (role_number a) (role_number b)

-- whether a role is among them
abbrev pub has : List Role → Role → Bool
has set role = list_any (same_role role) set

-- those of all roles that pass a test, in their order
unfoldable pub roles_that : (Role → Bool) → List Role
roles_that test = filter test roles

-- the list has each of its roles once, in the order of the roles, as each set of roles does
abbrev pub IsListed : List Role → Type 0
IsListed set = set ≡ roles_that (has set)

-- with one role more
abbrev pub with_role : List Role → Role → List Role
with_role set role = roles_that (λ other. same_role role other || has set other)

-- without one role
abbrev pub without_role : List Role → Role → List Role
without_role set role = roles_that (λ other. not (same_role role other) && has set other)

-- the roles of two sets
abbrev pub union_of : List Role → List Role → List Role
union_of a b = roles_that (λ role. has a role || has b role)
