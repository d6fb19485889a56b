-- Who sits where: the users with a seat, each by name, with the name to show and the member's number that are known.
use Rattle.std.specs.Prelude.{ℕ, List, Option, option_map}
use Rattle.std.specs.List.{find, filter_map}
use Rattle.rbac.specs.Account.{same_name}
use Rattle.rbac.specs.declared.account.Account.{Account}
use Rattle.session_state.specs.Readers.{seated_of, shown_users}
use Rattle.session_state.specs.SessionState.{SessionState}
use Rattle.session_state.specs.declared.seated.Seated.{Seated}
use Rattle.session_state.specs.declared.shown_user.ShownUser.{ShownUser}
use Rattle.session_report.specs.declared.membership.Membership.{Membership}
use Rattle.session_report.specs.declared.player.Player.{Player}

-- the name to show of a user, where there is one
abbrev pub shown_name_among : List ShownUser → List ℕ → Option (List ℕ)
shown_name_among users name =
    option_map (λ user. user.shown) (find (λ (user : ShownUser). same_name user.name name) users)

-- the number of a user as a member, where it is known
abbrev pub number_among : List Membership → List ℕ → Option (List ℕ)
number_among memberships name =
    option_map (λ membership. membership.number)
    (find (λ (membership : Membership). same_name membership.name name) memberships)

-- a user who sits somewhere
abbrev pub player_at : List ShownUser → List Membership → Seated → Player
player_at users memberships seated = record {
  seat = seated.seat;
  name = seated.name;
  shown = shown_name_among users seated.name;
  number = number_among memberships seated.name;
}

-- the user of an account, where the user sits somewhere
abbrev pub player_of : SessionState → List ShownUser → List Membership → Account → Option Player
player_of state users memberships account = option_map (player_at users memberships) (seated_of state account)

-- the users who sit somewhere, in the order of the accounts
abbrev pub players_of : SessionState → List Membership → List Player
players_of state memberships =
    filter_map (player_of state (shown_users state) memberships) state.roles.accounts
