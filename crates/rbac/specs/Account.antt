-- The accounts of users (core RBAC of INCITS 359-2012): the users, and the roles that are assigned to each.
use Rattle.std.specs.Prelude.{
  ◌≡◌,
  ℕ,
  Bool,
  true,
  ◌||◌,
  ◌&&◌,
  nat_eq,
  nat_le,
  List,
  [],
  map,
  find,
  length,
  Option,
  option_map,
  if◌then◌else◌,
}
use Rattle.std.specs.List.{Any, list_all}
use Rattle.std.specs.Char.{is_ascii_alphanumeric}
use Rattle.std.specs.Cmp.Lexicographic.{pointwise}
use Rattle.session_roles.specs.declared.role.Role.{Role}
use Rattle.rbac.specs.declared.account.Account.{Account}
use Rattle.rbac.specs.declared.roles.TheConstants.Roles.{MOST_USERS}
use Rattle.user_names.specs.declared.name.TheConstants.Name.{MOST}
use Rattle.session_roles.specs.Role.{has}

-- how many users there are at most
abbrev pub most_users : ℕ
most_users = MOST_USERS

-- a letter, a digit, `-` or `_`
abbrev pub is_name_byte : ℕ → Bool
is_name_byte b = is_ascii_alphanumeric b || nat_eq b 45 || nat_eq b 95

-- from 1 of them to the most that a name has
abbrev pub is_user_name : List ℕ → Bool
is_user_name name = nat_le 1 (length name) && nat_le (length name) MOST && list_all is_name_byte name

-- whether two names are one
abbrev pub same_name : List ℕ → List ℕ → Bool
same_name a b = pointwise nat_eq a b

-- a user of this name has an account
abbrev pub HasAccount : List Account → List ℕ → Type 0
HasAccount accounts name = Any (λ account. account.name ≡ name) accounts

-- the role is assigned to the user of this name
abbrev pub IsAssigned : List Account → List ℕ → Role → Type 0
IsAssigned accounts name role =
    Any (λ account. (account.name ≡ name) × (has account.assigned role ≡ true)) accounts

-- the roles that are assigned to the user of this name, if there is one
unfoldable pub assigned_roles : List Account → List ℕ → Option (List Role)
assigned_roles accounts name =
    option_map (λ account. account.assigned) (find (λ account. same_name account.name name) accounts)

-- the accounts with the assigned roles of one user changed
abbrev pub with_change : (List Role → List Role) → List ℕ → List Account → List Account
with_change change name accounts =
    map (λ account.
    if same_name account.name name
    then record { name = account.name; assigned = change account.assigned }
    else account) accounts

-- an account with no role
abbrev pub new_account : List ℕ → Account
new_account name = record { name = name; assigned = [] }
