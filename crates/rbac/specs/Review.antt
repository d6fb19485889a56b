-- What is asked of users, their roles and the role hierarchy, as tests (the review functions of INCITS 359-2012).
use Rattle.std.specs.Prelude.{ℕ, Bool, ◌&&◌, List, Option, find, if◌then◌else◌}
use Rattle.std.specs.List.{list_any}
use Rattle.session_roles.specs.declared.role.Role.{Role}
use Rattle.rbac.specs.declared.account.Account.{Account}
use Rattle.session_roles.specs.declared.separation_set.SeparationSet.{SeparationSet}
use Rattle.session_roles.specs.Role.{has, without_role}
use Rattle.rbac.specs.Account.{same_name}
use Rattle.rbac.specs.Inheritance.{pair_of, same_inheritance}
use Rattle.session_roles.specs.Separation.{separation_sets, has_both}
use Rattle.rbac.specs.RoleData.{RoleData}
use Rattle.rbac.specs.Authorization.{reached}

-- whether there is a user of this name
abbrev pub has_account : RoleData → List ℕ → Bool
has_account roles name = list_any (λ account. same_name account.name name) roles.accounts

-- whether the role is assigned to the user
abbrev pub is_assigned : RoleData → List ℕ → Role → Bool
is_assigned roles name role =
    list_any (λ account. same_name account.name name && has account.assigned role) roles.accounts

-- the roles that are assigned to an account, but for one role of the user of a name
abbrev pub assigned_without : Account → List ℕ → Role → List Role
assigned_without account name role =
    if same_name account.name name then without_role account.assigned role else account.assigned

-- whether some user is authorized for a role
abbrev pub has_user_for : RoleData → Role → Bool
has_user_for roles role = list_any (λ account. has (reached roles.pairs account.assigned) role) roles.accounts

-- whether somebody is authorized for both roles of a separation set
abbrev pub is_broken : RoleData → SeparationSet → Bool
is_broken roles set = list_any (λ account. has_both (reached roles.pairs account.assigned) set) roles.accounts

-- the first separation set that is broken, by whomever
abbrev pub first_broken : RoleData → Option SeparationSet
first_broken roles = find (is_broken roles) separation_sets

-- whether the inheritance pair is there
abbrev pub has_pair : RoleData → Role → Role → Bool
has_pair roles senior junior = list_any (same_inheritance (pair_of senior junior)) roles.pairs
