-- What a command asks of the users, of their roles and of the role hierarchy (INCITS 359-2012).
use Rattle.std.specs.Prelude.{ℕ, Bool, not, List}
use Rattle.std.specs.List.{list_any}
use Rattle.rbac.specs.Authorization.{authorized_roles}
use Rattle.rbac.specs.RoleData.{RoleData}
use Rattle.rbac.specs.declared.add_user_error.AddUserError.{AddUserError}
use Rattle.rbac.specs.declared.add_user_error.AddUserError.TheVariants as adding
use Rattle.rbac.specs.declared.assign_error.AssignError.{AssignError}
use Rattle.rbac.specs.declared.assign_error.AssignError.TheVariants as assigning
use Rattle.rbac.specs.declared.deassign_error.DeassignError.{DeassignError}
use Rattle.rbac.specs.declared.deassign_error.DeassignError.TheVariants as deassigning
use Rattle.rbac.specs.declared.add_inheritance_error.AddInheritanceError.{AddInheritanceError}
use Rattle.rbac.specs.declared.add_inheritance_error.AddInheritanceError.TheVariants as inheriting
use Rattle.rbac.specs.declared.delete_inheritance_error.DeleteInheritanceError.{DeleteInheritanceError}
use Rattle.rbac.specs.declared.delete_inheritance_error.DeleteInheritanceError.TheVariants as deleting
use Rattle.session_commands.specs.declared.refusal.Refusal.{Refusal}
use Rattle.session_commands.specs.declared.refusal.Refusal.TheVariants.{BadName, UserExists, TooManyUsers, NoSuchUser}
use Rattle.session_commands.specs.declared.refusal.Refusal.TheVariants.{NoSuchRole, AlreadyAssigned, Separation}
use Rattle.session_commands.specs.declared.refusal.Refusal.TheVariants.{NotAssigned, Cycle, AlreadyThere, NotThere}
use Rattle.session_roles.specs.declared.role.Role.{Role}
use Rattle.session_roles.specs.declared.role.Role.TheVariants.{Contestant, Administrator}
use Rattle.disclosure_rules.specs.Policy.{is_authorized}
use Rattle.session_state.specs.declared.seated.Seated.{Seated}
-- whether there is a user of a name, a role is assigned, a separation set is broken, an inheritance pair is there
pub use Rattle.rbac.specs.Review.{has_account, is_assigned, has_user_for, is_broken, first_broken, has_pair}

-- whether the user is authorized for a role
abbrev pub is_authorized_for : RoleData → List ℕ → Role → Bool
is_authorized_for roles name role = is_authorized (authorized_roles roles name) role

-- whether somebody is authorized for Administrator
abbrev pub has_administrator : RoleData → Bool
has_administrator roles = has_user_for roles Administrator

-- whether a seated user is not authorized for Contestant
abbrev pub seats_a_stranger : RoleData → List Seated → Bool
seats_a_stranger roles seats =
    list_any (λ (seated : Seated). not (is_authorized_for roles seated.name Contestant)) seats

-- what a command is refused as, by what refuses the change of users and roles
abbrev pub user_refusal : AddUserError → Refusal
user_refusal adding.BadName = BadName
user_refusal adding.UserExists = UserExists
user_refusal adding.TooManyUsers = TooManyUsers

abbrev pub assignment_refusal : AssignError → Refusal
assignment_refusal assigning.NoSuchUser = NoSuchUser
assignment_refusal assigning.NoSuchRole = NoSuchRole
assignment_refusal assigning.AlreadyAssigned = AlreadyAssigned
assignment_refusal (assigning.Separation set) = Separation set

abbrev pub deassignment_refusal : DeassignError → Refusal
deassignment_refusal deassigning.NoSuchUser = NoSuchUser
deassignment_refusal deassigning.NoSuchRole = NoSuchRole
deassignment_refusal deassigning.NotAssigned = NotAssigned

abbrev pub inheritance_refusal : AddInheritanceError → Refusal
inheritance_refusal inheriting.NoSuchRole = NoSuchRole
inheritance_refusal inheriting.Cycle = Cycle
inheritance_refusal inheriting.AlreadyThere = AlreadyThere
inheritance_refusal (inheriting.Separation set) = Separation set

abbrev pub deletion_refusal : DeleteInheritanceError → Refusal
deletion_refusal deleting.NoSuchRole = NoSuchRole
deletion_refusal deleting.NotThere = NotThere
