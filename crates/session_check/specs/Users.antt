-- For which user a session isn't opened.
--
-- own: the users are looked at in their order (`Rattle.session_opening.specs.OpeningRefusal`), so the refusal is that of the
-- first user with whom, after those before, there is one.
use Rattle.std.specs.Prelude.{◌≡◌, ℕ, ◌+◌, ◌<◌, ◌≤◌, Bool, true, false, List, length, take, get_or, Option, Some, None}
use Rattle.std.specs.List.{position}
use Rattle.std.specs.Option.{IsSomeAnd}
use Rattle.disclosure_rules.specs.declared.seat.Seat.{Seat}
use Rattle.rbac.specs.Account.{same_name}
use Rattle.session_state.specs.Seats.{same_seat}
use Rattle.session_opening.specs.OpeningRefusal.{opening_refusal}
use Rattle.session_opening.specs.declared.config.Config.{Config}
use Rattle.session_opening.specs.declared.new_user.NewUser.{NewUser}
use Rattle.session_opening.specs.declared.opening_refusal.OpeningRefusal.{OpeningRefusal}
use Rattle.session_opening.specs.declared.opening_refusal.OpeningRefusal.TheVariants.{
  UserExists,
  SeatTaken,
  LastAdministrator,
}
use Rattle.session_check.specs.declared.refused.NamedUser.{NamedUser}

-- the same session with other users
abbrev pub with_users : Config → List NewUser → Config
with_users config users = record config { users = users }

-- the same session with its first users alone, so many
abbrev pub with_first : Config → ℕ → Config
with_first config many = with_users config (take many config.users)

-- the refusal is one of a user: all are but that nobody is an administrator
abbrev pub is_of_user : Option OpeningRefusal → Bool
is_of_user None = false
is_of_user (Some LastAdministrator) = false
is_of_user (Some _) = true

-- no session is opened for the user in this place, from 0: with the users up to there there is a refusal of a user, and
-- with fewer there is none
pub record IsRefusedUser (config : Config) (place : ℕ) : Type 0 where
  pub within : place < length config.users
  pub refused : is_of_user (opening_refusal (with_first config (place + 1))) ≡ true
  pub first : (fewer : ℕ) → fewer ≤ place → is_of_user (opening_refusal (with_first config fewer)) ≡ false

-- the user in this place, from 0, is told by the number from 1 and the name
pub record IsUserAt (users : List NewUser) (place : ℕ) (user : NamedUser) : Type 0 where
  pub within : place < length users
  pub number : user.number ≡ place + 1
  pub name : (d : NewUser) → user.name ≡ (get_or users place d).name

-- a user is told, and it is the one for whom the session isn't opened; or none is told, and it isn't opened for none
abbrev pub TellsUser : Config → Option NamedUser → Type 0
TellsUser config None = is_of_user (opening_refusal config) ≡ false
TellsUser config (Some user) = (place : ℕ) × IsRefusedUser config place × IsUserAt config.users place user

-- ---- in whose way a user is

-- whether two users have one seat
abbrev pub same_seats : Option Seat → Option Seat → Bool
same_seats (Some one) (Some other) = same_seat one other
same_seats _ _ = false

-- whether one before is in the way of a user, by the cause: they have one name, or one seat
abbrev pub is_in_the_way : OpeningRefusal → NewUser → NewUser → Bool
is_in_the_way UserExists user before = same_name before.name user.name
is_in_the_way SeatTaken user before = same_seats before.seat user.seat
is_in_the_way _ user before = false

-- the first user before a place who is in the way of the user there
abbrev pub first_in_the_way : OpeningRefusal → List NewUser → ℕ → NewUser → Option ℕ
first_in_the_way cause users place user = position (is_in_the_way cause user) (take place users)

-- a user is told in this place, or none is
abbrev pub TellsAt : List NewUser → Option ℕ → Option NamedUser → Type 0
TellsAt users None told = told ≡ None
TellsAt users (Some place) told = IsSomeAnd told (IsUserAt users place)
