-- What is written of the session's lists: the boards that a filter keeps, the ranking, and the accounts.
use Rattle.std.specs.Prelude.{ℕ, Bool, List, [], ◌∷◌, codes}
use Rattle.serde_json.specs.Data.{Data, boolean, string, array, object, member, no_members}
use Rattle.serde_json.specs.View.{items_of}
use Rattle.table_terms.specs.Pair.{pair_text}
use Rattle.rbac.specs.declared.account.Account.{Account}
use Rattle.rbac.specs.declared.inheritance.Inheritance.{Inheritance}
use Rattle.session_roles.specs.declared.role.Role.{Role}
use Rattle.session_roles.specs.Role.{role_name, roles_that, has}
use Rattle.scoring.specs.declared.standing.Standing.{Standing}
use Rattle.reply_texts.specs.DataOf.{number_data, list_data}

-- the boards' numbers, and whether a later board would follow
abbrev pub boards_data : List ℕ → Bool → Data
boards_data boards more =
    object (member (codes "boards") (list_data number_data boards)
    (member (codes "more") (boolean more) no_members))

-- a pair, what it earned, and its sum of tops
abbrev pub standing_data : Standing → Data
standing_data standing =
    array (items_of (string (pair_text standing.pair)
    ∷ number_data standing.earned
    ∷ number_data standing.tops
    ∷ []))

-- the pairs in the order in which they rank
abbrev pub ranking_data : List Standing → Data
ranking_data standings = list_data standing_data standings

abbrev pub role_data : Role → Data
role_data role = string (role_name role)

-- a user's name, and the roles that are assigned to the user, in the order of the roles
abbrev pub account_data : Account → Data
account_data account =
    array (items_of (string account.name
    ∷ list_data role_data (roles_that (has account.assigned))
    ∷ []))

-- the senior role, then the junior one
abbrev pub inheritance_data : Inheritance → Data
inheritance_data pair = array (items_of (role_data pair.senior ∷ role_data pair.junior ∷ []))

-- the role hierarchy and the users, each in the order in which they were added
abbrev pub accounts_data : List Account → List Inheritance → Data
accounts_data users pairs =
    object (member (codes "inherits") (list_data inheritance_data pairs)
    (member (codes "users") (list_data account_data users) no_members))
