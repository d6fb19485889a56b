-- The first cause that refuses each change, if one does, worked out by tests (the causes are those of `Refusals.antt`).
use Rattle.std.specs.Prelude.{ℕ, not, nat_le, List, length, Option, option_map}
use Rattle.std.specs.Bool.{then_some}
use Rattle.std.specs.Option.{option_or}
use Rattle.session_roles.specs.declared.role.Role.{Role}
use Rattle.rbac.specs.declared.add_user_error.AddUserError.{AddUserError}
use Rattle.rbac.specs.declared.add_user_error.AddUserError.TheVariants.{BadName, UserExists, TooManyUsers}
use Rattle.rbac.specs.declared.assign_error.AssignError.{AssignError}
use Rattle.rbac.specs.declared.assign_error.AssignError.TheVariants.{NoSuchUser, NoSuchRole, AlreadyAssigned, Separation}
use Rattle.rbac.specs.declared.deassign_error.DeassignError.{DeassignError}
use Rattle.rbac.specs.declared.deassign_error.DeassignError.TheVariants as deassign
use Rattle.rbac.specs.declared.add_inheritance_error.AddInheritanceError.{AddInheritanceError}
use Rattle.rbac.specs.declared.add_inheritance_error.AddInheritanceError.TheVariants as inheritance
use Rattle.rbac.specs.declared.delete_inheritance_error.DeleteInheritanceError.{DeleteInheritanceError}
use Rattle.rbac.specs.declared.delete_inheritance_error.DeleteInheritanceError.TheVariants as deletion
use Rattle.session_roles.specs.Role.{is_role_of}
use Rattle.rbac.specs.Account.{most_users, is_user_name}
use Rattle.rbac.specs.Inheritance.{reaches}
use Rattle.rbac.specs.Refusals.{are_roles_of}
use Rattle.rbac.specs.Review.{has_account, is_assigned, first_broken, has_pair}
use Rattle.rbac.specs.RoleData.{RoleData, assign_user, add_inheritance}

-- AddUser
abbrev pub user_cause : RoleData → List ℕ → Option AddUserError
user_cause state name =
    option_or (then_some (not (is_user_name name)) BadName)
    (option_or (then_some (has_account state name) UserExists)
    (then_some (nat_le most_users (length state.accounts)) TooManyUsers))

-- AssignUser
abbrev pub assignment_cause : RoleData → List ℕ → Role → Option AssignError
assignment_cause state name role =
    option_or (then_some (not (has_account state name)) NoSuchUser)
    (option_or (then_some (not (is_role_of state.edition role)) NoSuchRole)
    (option_or (then_some (is_assigned state name role) AlreadyAssigned)
    (option_map Separation (first_broken (assign_user state name role)))))

-- DeassignUser
abbrev pub deassignment_cause : RoleData → List ℕ → Role → Option DeassignError
deassignment_cause state name role =
    option_or (then_some (not (has_account state name)) deassign.NoSuchUser)
    (option_or (then_some (not (is_role_of state.edition role)) deassign.NoSuchRole)
    (then_some (not (is_assigned state name role)) deassign.NotAssigned))

-- AddInheritance
abbrev pub inheritance_cause : RoleData → Role → Role → Option AddInheritanceError
inheritance_cause state senior junior =
    option_or (then_some (not (are_roles_of state.edition senior junior)) inheritance.NoSuchRole)
    (option_or (then_some (reaches state.pairs junior senior) inheritance.Cycle)
    (option_or (then_some (has_pair state senior junior) inheritance.AlreadyThere)
    (option_map inheritance.Separation (first_broken (add_inheritance state senior junior)))))

-- DeleteInheritance
abbrev pub deletion_cause : RoleData → Role → Role → Option DeleteInheritanceError
deletion_cause state senior junior =
    option_or (then_some (not (are_roles_of state.edition senior junior)) deletion.NoSuchRole)
    (then_some (not (has_pair state senior junior)) deletion.NotThere)
