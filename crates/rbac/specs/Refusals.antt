-- Why a change is refused: the causes of each function in their order, of which the first that holds is answered
-- (`IsFirst`).
use Rattle.std.specs.Prelude.{◌≡◌, ℕ, ◌+◌, ◌≤◌, Bool, false, ◌&&◌, List, length, Contains}
use Rattle.session_roles.specs.declared.edition.Edition.{Edition}
use Rattle.session_roles.specs.declared.role.Role.{Role}
use Rattle.rbac.specs.declared.add_user_error.AddUserError.{AddUserError}
use Rattle.rbac.specs.declared.add_user_error.AddUserError.TheVariants.{BadName, UserExists, TooManyUsers}
use Rattle.rbac.specs.declared.assign_error.AssignError.{AssignError}
use Rattle.rbac.specs.declared.assign_error.AssignError.TheVariants.{NoSuchUser, NoSuchRole, AlreadyAssigned, Separation}
use Rattle.rbac.specs.declared.deassign_error.DeassignError.{DeassignError}
use Rattle.rbac.specs.declared.deassign_error.DeassignError.TheVariants as deassign
use Rattle.rbac.specs.declared.add_inheritance_error.AddInheritanceError.{AddInheritanceError}
use Rattle.rbac.specs.declared.add_inheritance_error.AddInheritanceError.TheVariants as inheritance
use Rattle.rbac.specs.declared.delete_inheritance_error.DeleteInheritanceError.{DeleteInheritanceError}
use Rattle.rbac.specs.declared.delete_inheritance_error.DeleteInheritanceError.TheVariants as deletion
use Rattle.rbac.specs.Inheritance.{Reaches, pair_of}
use Rattle.session_roles.specs.Role.{is_role_of}
use Rattle.session_roles.specs.Separation.{set_number}
use Rattle.rbac.specs.Account.{most_users, is_user_name, HasAccount, IsAssigned}
use Rattle.rbac.specs.RoleData.{RoleData, assign_user, add_inheritance}
use Rattle.rbac.specs.Authorization.{IsBroken}

-- AddUser
abbrev pub add_user_place : AddUserError → ℕ
add_user_place BadName = 0
add_user_place UserExists = 1
add_user_place TooManyUsers = 2

abbrev pub RefusesUser : RoleData → List ℕ → AddUserError → Type 0
RefusesUser state name BadName = is_user_name name ≡ false
RefusesUser state name UserExists = HasAccount state.accounts name
RefusesUser state name TooManyUsers = most_users ≤ length state.accounts

-- AssignUser; of the separation sets that would be broken, by whomever, the first in their order
abbrev pub assign_place : AssignError → ℕ
assign_place NoSuchUser = 0
assign_place NoSuchRole = 1
assign_place AlreadyAssigned = 2
assign_place (Separation set) = 3 + set_number set

abbrev pub RefusesAssignment : RoleData → List ℕ → Role → AssignError → Type 0
RefusesAssignment state name role NoSuchUser = ¬ HasAccount state.accounts name
RefusesAssignment state name role NoSuchRole = is_role_of state.edition role ≡ false
RefusesAssignment state name role AlreadyAssigned = IsAssigned state.accounts name role
RefusesAssignment state name role (Separation set) = IsBroken (assign_user state name role) set

-- DeassignUser
abbrev pub deassign_place : DeassignError → ℕ
deassign_place deassign.NoSuchUser = 0
deassign_place deassign.NoSuchRole = 1
deassign_place deassign.NotAssigned = 2

abbrev pub RefusesDeassignment : RoleData → List ℕ → Role → DeassignError → Type 0
RefusesDeassignment state name role deassign.NoSuchUser = ¬ HasAccount state.accounts name
RefusesDeassignment state name role deassign.NoSuchRole = is_role_of state.edition role ≡ false
RefusesDeassignment state name role deassign.NotAssigned = ¬ IsAssigned state.accounts name role

-- whether an edition knows both roles of a pair
abbrev pub are_roles_of : Edition → Role → Role → Bool
are_roles_of edition senior junior = is_role_of edition senior && is_role_of edition junior

-- AddInheritance; a role reaches itself, so an equal senior and junior are a cycle
abbrev pub inheritance_place : AddInheritanceError → ℕ
inheritance_place inheritance.NoSuchRole = 0
inheritance_place inheritance.Cycle = 1
inheritance_place inheritance.AlreadyThere = 2
inheritance_place (inheritance.Separation set) = 3 + set_number set

abbrev pub RefusesInheritance : RoleData → Role → Role → AddInheritanceError → Type 0
RefusesInheritance state senior junior inheritance.NoSuchRole = are_roles_of state.edition senior junior ≡ false
RefusesInheritance state senior junior inheritance.Cycle = Reaches state.pairs junior senior
RefusesInheritance state senior junior inheritance.AlreadyThere = Contains state.pairs (pair_of senior junior)
RefusesInheritance state senior junior (inheritance.Separation set) =
    IsBroken (add_inheritance state senior junior) set

-- DeleteInheritance
abbrev pub deletion_place : DeleteInheritanceError → ℕ
deletion_place deletion.NoSuchRole = 0
deletion_place deletion.NotThere = 1

abbrev pub RefusesDeletion : RoleData → Role → Role → DeleteInheritanceError → Type 0
RefusesDeletion state senior junior deletion.NoSuchRole = are_roles_of state.edition senior junior ≡ false
RefusesDeletion state senior junior deletion.NotThere = ¬ Contains state.pairs (pair_of senior junior)
