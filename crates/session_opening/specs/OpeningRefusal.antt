-- When a session isn't opened: the causes, in the order in which they are looked at, first user by user.
--
-- own: the causes and their order are this project's. The roles, their hierarchy and the separation of duty are those
-- of INCITS 359-2012: separation is of the roles for which a user is authorized.
use Rattle.std.specs.Prelude.{not, nat_le, List, [], ◌∷◌, ◌++◌, length, find, Option, None, Some}
use Rattle.std.specs.Bool.{then_some}
use Rattle.std.specs.Option.{option_map}
use Rattle.movement.specs.Movement.{Section, is_pair_of}
use Rattle.rbac.specs.Account.{most_users, is_user_name}
use Rattle.session_roles.specs.declared.edition.Edition.{Edition}
use Rattle.session_roles.specs.Role.{has}
use Rattle.session_roles.specs.Separation.{separation_sets, has_both}
use Rattle.session_roles.specs.declared.role.Role.TheVariants.{Contestant}
use Rattle.disclosure_rules.specs.declared.seat.Seat.{Seat}
use Rattle.session_opening.specs.declared.config.Config.{Config}
use Rattle.session_opening.specs.declared.new_user.NewUser.{NewUser}
use Rattle.session_opening.specs.declared.opening_refusal.OpeningRefusal.{OpeningRefusal}
use Rattle.session_opening.specs.declared.opening_refusal.OpeningRefusal.TheVariants.{
  BadName,
  UserExists,
  TooManyUsers,
  NoSuchRole,
  AlreadyAssigned,
  Separation,
  NoSuchPair,
  WrongDirection,
  NotContestant,
  SeatTaken,
  LastAdministrator,
}
use Rattle.session_state.specs.Accounts.{has_account, has_administrator}
use Rattle.session_opening.specs.NewUser.{repeats, knows_roles, authorized_at_opening}
use Rattle.session_opening.specs.Opening.{opening_roles, opening_seats}
use Rattle.session_state.specs.Refusal.{first_cause}
use Rattle.session_state.specs.Seats.{is_of_side, is_taken}

-- the causes in a user's account, after the users before it; of several separation sets the first in their order is
-- named
abbrev pub account_causes : Edition → List NewUser → NewUser → List (Option OpeningRefusal)
account_causes edition before user =
    then_some (not (is_user_name user.name)) BadName
    ∷ then_some (has_account (opening_roles edition before) user.name) UserExists
    ∷ then_some (nat_le most_users (length before)) TooManyUsers
    ∷ then_some (not (knows_roles edition user.roles)) NoSuchRole
    ∷ then_some (repeats user.roles) AlreadyAssigned
    ∷ option_map Separation (find (has_both (authorized_at_opening edition user)) separation_sets)
    ∷ []

-- the causes in a user's seat: none where the user has no seat
abbrev pub seat_causes : Edition → Section → List NewUser → NewUser → Option Seat → List (Option OpeningRefusal)
seat_causes edition movement before user None = []
seat_causes edition movement before user (Some seat) =
    then_some (not (is_pair_of movement seat.pair)) NoSuchPair
    ∷ then_some (not (is_of_side seat.pair seat.place)) WrongDirection
    ∷ then_some (not (has (authorized_at_opening edition user) Contestant)) NotContestant
    ∷ then_some (is_taken (opening_seats before) seat) SeatTaken
    ∷ []

-- the causes of one user, after the users before it
abbrev pub user_causes : Edition → Section → List NewUser → NewUser → List (Option OpeningRefusal)
user_causes edition movement before user =
    account_causes edition before user ++ seat_causes edition movement before user user.seat

-- the causes of the users, one after another
abbrev pub users_causes : Edition → Section → List NewUser → List NewUser → List (Option OpeningRefusal)
users_causes edition movement before [] = []
users_causes edition movement before (user ∷ users) =
    user_causes edition movement before user ++ users_causes edition movement (before ++ user ∷ []) users

-- all causes: user by user, then whether nobody is authorized for Administrator
abbrev pub opening_causes : Config → List (Option OpeningRefusal)
opening_causes config =
    users_causes config.edition config.movement [] config.users
    ++ then_some (not (has_administrator (opening_roles config.edition config.users))) LastAdministrator ∷ []

-- the first cause not to open a session, if one is met
unfoldable pub opening_refusal : Config → Option OpeningRefusal
opening_refusal config = first_cause (opening_causes config)
