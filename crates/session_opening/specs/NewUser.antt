-- A user with whom a session opens: the account, and the seat.
use Rattle.std.specs.Prelude.{Bool, false, ◌||◌, List, [], ◌∷◌, Option}
use Rattle.std.specs.List.{list_all}
use Rattle.std.specs.Option.{option_map}
use Rattle.rbac.specs.Authorization.{reached}
use Rattle.rbac.specs.Inheritance.{opening_pairs}
use Rattle.session_roles.specs.Role.{roles_that, has, is_role_of}
use Rattle.rbac.specs.declared.account.Account.{Account}
use Rattle.session_roles.specs.declared.edition.Edition.{Edition}
use Rattle.session_roles.specs.declared.role.Role.{Role}
use Rattle.session_opening.specs.declared.new_user.NewUser.{NewUser}
use Rattle.session_state.specs.declared.seated.Seated.{Seated}

-- the roles of a list, as a set
abbrev pub set_of : List Role → List Role
set_of list = roles_that (has list)

-- whether some role stands twice in a list
abbrev pub repeats : List Role → Bool
repeats [] = false
repeats (role ∷ list) = has list role || repeats list

-- whether an edition of the policy knows all roles of a list
abbrev pub knows_roles : Edition → List Role → Bool
knows_roles edition list = list_all (is_role_of edition) list

-- the user's account: the roles of the list are assigned
abbrev pub account_of : NewUser → Account
account_of user = record { name = user.name; assigned = set_of user.roles }

-- the roles for which the user is authorized by the role hierarchy of a new session
abbrev pub authorized_at_opening : Edition → NewUser → List Role
authorized_at_opening edition user = reached (opening_pairs edition) (set_of user.roles)

-- where the user sits, if the user has a seat
abbrev pub new_seated : NewUser → Option Seated
new_seated user = option_map (λ seat. record { name = user.name; seat = seat }) user.seat
