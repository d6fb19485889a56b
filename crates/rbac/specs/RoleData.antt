-- What is kept of users and roles as plain data, and how each function of INCITS 359-2012 changes it.
use Rattle.std.specs.Prelude.{ℕ, List, [], ◌∷◌, ◌++◌}
use Rattle.session_roles.specs.declared.edition.Edition.{Edition}
use Rattle.session_roles.specs.declared.role.Role.{Role}
use Rattle.rbac.specs.declared.inheritance.Inheritance.{Inheritance}
use Rattle.rbac.specs.declared.account.Account.{Account}
use Rattle.rbac.specs.declared.change.Change.{Change}
use Rattle.rbac.specs.declared.change.Change.TheVariants.{Deassign, DeleteInheritance}
use Rattle.session_roles.specs.Role.{with_role, without_role}
use Rattle.rbac.specs.Inheritance.{pair_of, opening_pairs, without_pair}
use Rattle.rbac.specs.Account.{new_account, with_change}

-- the accounts and the inheritance pairs, each in the order in which they were added, and the edition of the policy
pub record RoleData : Type 0 where
  pub accounts : List Account
  pub pairs : List Inheritance
  pub edition : Edition

-- a new session: no users, and the pairs of a new session
abbrev pub opening_data : Edition → RoleData
opening_data edition = record { accounts = []; pairs = opening_pairs edition; edition = edition }

-- AddUser: one account more, with no role
abbrev pub add_user : RoleData → List ℕ → RoleData
add_user state name = record state { accounts = state.accounts ++ new_account name ∷ [] }

-- AssignUser
abbrev pub assign_user : RoleData → List ℕ → Role → RoleData
assign_user state name role = record state { accounts = with_change (λ set. with_role set role) name state.accounts }

-- DeassignUser
abbrev pub deassign_user : RoleData → List ℕ → Role → RoleData
deassign_user state name role =
    record state { accounts = with_change (λ set. without_role set role) name state.accounts }

-- AddInheritance
abbrev pub add_inheritance : RoleData → Role → Role → RoleData
add_inheritance state senior junior = record state { pairs = state.pairs ++ pair_of senior junior ∷ [] }

-- DeleteInheritance
abbrev pub delete_inheritance : RoleData → Role → Role → RoleData
delete_inheritance state senior junior = record state { pairs = without_pair state.pairs (pair_of senior junior) }

-- either of the changes that take authorization away
abbrev pub after_change : RoleData → Change → RoleData
after_change state (Deassign name role) = deassign_user state name.now role
after_change state (DeleteInheritance senior junior) = delete_inheritance state senior junior
