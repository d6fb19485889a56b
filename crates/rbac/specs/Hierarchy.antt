-- What each role reaches, kept as a table: for each role the roles that it reaches.
use Rattle.std.specs.Prelude.{◌≡◌, Bool, ◌&&◌, List, [], slice_index_or, if◌then◌else◌}
use Rattle.std.specs.List.{list_any}
use Rattle.session_roles.specs.declared.role.Role.{Role}
use Rattle.rbac.specs.declared.inheritance.Inheritance.{Inheritance}
use Rattle.rbac.specs.declared.account.Account.{Account}
use Rattle.session_roles.specs.declared.separation_set.SeparationSet.{SeparationSet}
use Rattle.session_roles.specs.Separation.{has_both}
use Rattle.session_roles.specs.Role.{roles, role_number, roles_that, has, union_of}
use Rattle.rbac.specs.Inheritance.{reaches}

-- the roles that the table has for a role
abbrev pub below : List (List Role) → Role → List Role
below table senior = slice_index_or table (role_number senior) []

-- whether the table says that the senior reaches the junior
abbrev pub reach : List (List Role) → Role → Role → Bool
reach table senior junior = has (below table senior) junior

-- the table says of each two roles what the pairs do
abbrev pub IsClosure : List Inheritance → List (List Role) → Type 0
IsClosure pairs table = (senior junior : Role) → reach table senior junior ≡ reaches pairs senior junior

-- a set that has the senior of one pair more gains what the junior reaches
abbrev pub with_below : List (List Role) → Inheritance → List Role → List Role
with_below table pair set = if has set pair.senior then union_of set (below table pair.junior) else set

-- the new table has one pair more
abbrev pub HasOneMore : List (List Role) → Inheritance → List (List Role) → Type 0
HasOneMore old pair new = (senior : Role) → below new senior ≡ with_below old pair (below old senior)

-- the roles that the table has for some role of a set
abbrev pub reached_from : List (List Role) → List Role → List Role
reached_from table set = roles_that (λ role. list_any (λ senior. has set senior && reach table senior role) roles)

-- whether some account is authorized by the table for both roles of a set
abbrev pub is_broken_in : List (List Role) → List Account → SeparationSet → Bool
is_broken_in table accounts set = list_any (λ account. has_both (reached_from table account.assigned) set) accounts
