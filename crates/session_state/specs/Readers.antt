-- What is read of a state's users in the order of the accounts.
use Rattle.std.specs.Prelude.{ℕ, ◌+◌, ◌==◌, Option, Some, None, option_map, if◌then◌else◌, List, [], ◌∷◌, ◌++◌, length, slice_index_or}
use Rattle.std.specs.List.{filter_map}
use Rattle.rbac.specs.Account.{same_name}
use Rattle.rbac.specs.declared.account.Account.{Account}
use Rattle.user_names.specs.declared.digest.Digest.{Digest}
use Rattle.session_state.specs.declared.seated.Seated.{Seated}
use Rattle.session_state.specs.declared.shown_user.ShownUser.{ShownUser}
use Rattle.session_state.specs.SessionState.{SessionState, seat_of}

-- where the account of this name stands, counted from 0: after all others, where there is none
abbrev pub account_place : List Account → List ℕ → ℕ
account_place [] name = 0
account_place (account ∷ accounts) name = if same_name account.name name then 0 else account_place accounts name + 1

-- the digest that stands where the account of this name does, if there is one
abbrev pub digest_among : List Account → List Digest → List ℕ → Option Digest
digest_among [] digests name = None
digest_among (account ∷ accounts) [] name = None
digest_among (account ∷ accounts) (digest ∷ digests) name =
    if same_name account.name name then Some digest else digest_among accounts digests name

-- the digest of a user's token, if there is such a user
abbrev pub digest_of : SessionState → List ℕ → Option Digest
digest_of state name = digest_among state.roles.accounts state.digests name

-- the user with the name to show, who isn't told where there is none: where it is the empty text
abbrev pub shown_of : ShownUser → List ShownUser
shown_of user = if length user.shown == 0 then [] else user ∷ []

-- the names to show that stand where the accounts do, each with its user's name to sign in by
abbrev pub shown_among : List Account → List (List ℕ) → List ShownUser
shown_among [] names = []
shown_among (account ∷ accounts) [] = []
shown_among (account ∷ accounts) (name ∷ names) =
    shown_of (record { name = account.name; shown = name }) ++ shown_among accounts names

-- the users who have a name to show, with it, in the order of the accounts
abbrev pub shown_users : SessionState → List ShownUser
shown_users state = shown_among state.roles.accounts state.names

-- the name to show of a user: the empty text where there is none
abbrev pub shown_name_of : SessionState → List ℕ → List ℕ
shown_name_of state name = slice_index_or state.names (account_place state.roles.accounts name) []

-- where the user of an account sits, if the user sits somewhere
abbrev pub seated_of : SessionState → Account → Option Seated
seated_of state account = option_map (λ seat. record { name = account.name; seat = seat }) (seat_of state account.name)

-- where the users sit, in the order of the accounts
abbrev pub seats_in_order : SessionState → List Seated
seats_in_order state = filter_map (seated_of state) state.roles.accounts
