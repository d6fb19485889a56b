-- Who is authorized for which role (AuthorizedRoles of INCITS 359-2012), and what that allows.
use Rattle.std.specs.Prelude.{◌≡◌, ℕ, Bool, true, false, ◌&&◌, List, ◌≤◌, ◌≢◌, ◌↔◌, length, Option, option_map, All}
use Rattle.std.specs.Option.{option_map_or}
use Rattle.std.specs.List.{Any, AllPairs, IsDistinct, list_any}
use Rattle.session_roles.specs.declared.role.Role.{Role}
use Rattle.rbac.specs.declared.inheritance.Inheritance.{Inheritance}
use Rattle.session_roles.specs.declared.operation.Operation.{Operation}
use Rattle.session_roles.specs.declared.separation_set.SeparationSet.{SeparationSet}
use Rattle.session_roles.specs.Role.{roles, roles_that, has, IsListed}
use Rattle.rbac.specs.Inheritance.{Reaches, IsAcyclic, reaches, same_inheritance}
use Rattle.session_roles.specs.Operation.{is_operation_of, permits, one_permits}
use Rattle.session_roles.specs.Separation.{apart}
use Rattle.rbac.specs.Account.{most_users, is_user_name, assigned_roles}
use Rattle.rbac.specs.RoleData.{RoleData}

-- some assigned role reaches the role
abbrev pub IsReached : List Inheritance → List Role → Role → Type 0
IsReached pairs assigned role = (senior : Role) × (has assigned senior ≡ true) × Reaches pairs senior role

-- the user of this name is authorized for the role: some role that is assigned to it reaches the role
abbrev pub IsAuthorized : RoleData → List ℕ → Role → Type 0
IsAuthorized state name role =
    Any (λ account. (account.name ≡ name) × IsReached state.pairs account.assigned role) state.accounts

-- the set has just the roles for which the user is authorized
pub record AreAuthorized (state : RoleData) (name : List ℕ) (set : List Role) : Type 0 where
  pub listed : IsListed set
  pub exact : (role : Role) → (has set role ≡ true) ↔ IsAuthorized state name role

-- the user is authorized for a role that permits the operation
abbrev pub IsPermitted : RoleData → List ℕ → Operation → Type 0
IsPermitted state name operation =
    (role : Role) × IsAuthorized state name role × (permits role operation ≡ true)

-- the user has the permission: it is, and the edition knows the operation
abbrev pub HasPermission : RoleData → List ℕ → Operation → Type 0
HasPermission state name operation =
    (is_operation_of state.edition operation ≡ true) × IsPermitted state name operation

-- the role has the permission: it, or a role that it inherits, permits the operation
abbrev pub RoleHasPermission : List Inheritance → Role → Operation → Type 0
RoleHasPermission pairs role operation =
    (junior : Role) × Reaches pairs role junior × (permits junior operation ≡ true)

-- some user is authorized for both roles of a separation set
abbrev pub IsBroken : RoleData → SeparationSet → Type 0
IsBroken state set =
    Any (λ account.
    IsReached state.pairs account.assigned (apart set).0 × IsReached state.pairs account.assigned (apart set).1)
    state.accounts

-- nobody is
abbrev pub KeepsSeparation : RoleData → Type 0
KeepsSeparation state = (set : SeparationSet) → ¬ IsBroken state set

-- nobody has both roles of a separation set assigned, which says less
abbrev pub KeepsAssignedApart : RoleData → Type 0
KeepsAssignedApart state =
    (set : SeparationSet) → ¬ Any (λ account.
    (has account.assigned (apart set).0 ≡ true) × (has account.assigned (apart set).1 ≡ true)) state.accounts

-- what is true of users and roles at all times
pub record IsValid (state : RoleData) : Type 0 where
  pub named : All (λ account. is_user_name account.name ≡ true) state.accounts
  pub listed : All (λ account. IsListed account.assigned) state.accounts
  pub names : AllPairs (λ account other. account.name ≢ other.name) state.accounts
  pub few : length state.accounts ≤ most_users
  pub once : IsDistinct same_inheritance state.pairs
  pub acyclic : IsAcyclic state.pairs
  pub separate : KeepsSeparation state

-- the roles that the assigned ones reach, in their order
unfoldable pub reached : List Inheritance → List Role → List Role
reached pairs assigned =
    roles_that (λ role. list_any (λ senior. has assigned senior && reaches pairs senior role) roles)

-- the roles for which the user of this name is authorized, if there is one
abbrev pub authorized_roles : RoleData → List ℕ → Option (List Role)
authorized_roles state name = option_map (reached state.pairs) (assigned_roles state.accounts name)

-- whether the user has the permission
abbrev pub has_permission : RoleData → List ℕ → Operation → Bool
has_permission state name operation =
    is_operation_of state.edition operation
    && option_map_or (λ set. one_permits set operation) (authorized_roles state name) false
