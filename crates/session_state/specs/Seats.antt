-- What a command asks of seats.
use Rattle.std.specs.Prelude.{◌≡◌, ℕ, Bool, true, ◌&&◌, not, nat_eq, List, filter, All}
use Rattle.std.specs.List.{list_any, IsDistinct}
use Rattle.table_terms.specs.declared.pair.Pair.{Pair}
use Rattle.table_terms.specs.declared.place.Place.{Place}
use Rattle.table_terms.specs.Place.{side_of, place_number}
use Rattle.movement.specs.Movement.{Section, same_side, same_pair, is_pair_of}
use Rattle.rbac.specs.Account.{same_name}
use Rattle.rbac.specs.RoleData.{RoleData}
use Rattle.disclosure_rules.specs.declared.seat.Seat.{Seat}
use Rattle.session_state.specs.declared.seated.Seated.{Seated}
use Rattle.session_state.specs.Accounts.{has_account}

-- whether the place is one of the pair's side
abbrev pub is_of_side : Pair → Place → Bool
is_of_side pair place = same_side pair.side (side_of place)

-- whether two seats are one
abbrev pub same_seat : Seat → Seat → Bool
same_seat a b = same_pair a.pair b.pair && nat_eq (place_number a.place) (place_number b.place)

-- whether a user of this name sits somewhere
abbrev pub has_seat : List Seated → List ℕ → Bool
has_seat seats name = list_any (λ (seated : Seated). same_name seated.name name) seats

-- whether somebody sits there
abbrev pub is_taken : List Seated → Seat → Bool
is_taken seats seat = list_any (λ (seated : Seated). same_seat seated.seat seat) seats

-- without the seat of a user
abbrev pub without_seat : List Seated → List ℕ → List Seated
without_seat seats name = filter (λ (seated : Seated). not (same_name seated.name name)) seats

-- whether two seats are one user's
abbrev pub same_user : Seated → Seated → Bool
same_user a b = same_name a.name b.name

-- no user has two seats, and who has one has an account
pub record AreSeated (roles : RoleData) (seats : List Seated) : Type 0 where
  pub once : IsDistinct same_user seats
  pub users : (name : List ℕ) → has_seat seats name ≡ true → has_account roles name ≡ true

-- whether two users sit on one seat
abbrev pub share_seat : Seated → Seated → Bool
share_seat a b = same_seat a.seat b.seat

-- the seat is one of the section's: of a pair that it has, at a place of the pair's side
pub record IsSeatOf (section : Section) (seat : Seat) : Type 0 where
  pub pair : is_pair_of section seat.pair ≡ true
  pub place : is_of_side seat.pair seat.place ≡ true

-- no seat has two users, and each that is taken is one of the section's
pub record AreSeatsOf (section : Section) (seats : List Seated) : Type 0 where
  pub apart : IsDistinct share_seat seats
  pub own : All (λ (seated : Seated). IsSeatOf section seated.seat) seats
