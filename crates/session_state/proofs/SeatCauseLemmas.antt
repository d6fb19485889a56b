-- What holds where nothing hinders a command on a seat.
use Rattle.std.proofs.Common.{◌≡◌, ℕ, Bool, true, false, List, [], ◌∷◌, ◌++◌, refl}
use Rattle.std.specs.Prelude.{Option, None, not}
use Rattle.std.specs.Bool.{then_some}
use Rattle.table_terms.specs.declared.pair.Pair.{Pair}
use Rattle.table_terms.specs.declared.place.Place.{Place}
use Rattle.movement.specs.Movement.{is_pair_of}
use Rattle.session_roles.specs.declared.role.Role.TheVariants.{Contestant}
use Rattle.session_commands.specs.declared.command.Command.TheVariants as command
use Rattle.session_commands.specs.declared.refusal.Refusal.{Refusal}
use Rattle.session_commands.specs.declared.refusal.Refusal.TheVariants.{
  NoSuchPair,
  WrongDirection,
  NotContestant,
  AlreadySeated,
  SeatTaken,
}
use Rattle.session_state.specs.Accounts.{has_account, is_authorized_for}
use Rattle.session_state.specs.Refusal.{hindrance_of}
use Rattle.session_state.specs.Seats.{is_of_side, has_seat, is_taken, AreSeated, AreSeatsOf}
use Rattle.session_state.specs.SessionState.{SessionState}
use Rattle.session_state.proofs.HindranceLemmas.{first_unmet, rest_unmet, not_met, user_unhindered, own_unhindered}
use Rattle.session_state.proofs.PlacedLemmas.{one_more_placed}
use Rattle.session_state.proofs.SeatLemmas.{one_more_sits}

pub was_not : (b : Bool) → not b ≡ false → b ≡ true
was_not true none = refl
was_not false none = absurd cc

-- who is seated without a hindrance has an account and no seat yet
module _ (state : SessionState) (name : List ℕ) (pair : Pair) (place : Place)
    (unhindered : hindrance_of state (command.Seat name pair place) ≡ None) where
  pub seats_a_user : has_account state.roles name ≡ true
  seats_a_user = was_not (has_account state.roles name) (user_unhindered state (command.Seat name pair place)
      unhindered)

  no_pair : Option Refusal
  no_pair = then_some (not (is_pair_of state.public.movement pair)) NoSuchPair

  other_direction : Option Refusal
  other_direction = then_some (not (is_of_side pair place)) WrongDirection

  no_contestant : Option Refusal
  no_contestant = then_some (not (is_authorized_for state.roles name Contestant)) NotContestant

  seated_already : Option Refusal
  seated_already = then_some (has_seat state.seats name) AlreadySeated

  seat_taken : Option Refusal
  seat_taken = then_some (is_taken state.seats (record { pair = pair; place = place })) SeatTaken

  pub seats_nobody_twice : has_seat state.seats name ≡ false
  unfolding no_pair other_direction no_contestant seated_already seat_taken
  seats_nobody_twice =
      not_met (has_seat state.seats name) AlreadySeated
      (first_unmet seated_already (seat_taken ∷ [])
      (rest_unmet no_contestant (seated_already ∷ seat_taken ∷ [])
      (rest_unmet other_direction (no_contestant ∷ seated_already ∷ seat_taken ∷ [])
      (rest_unmet no_pair (other_direction ∷ no_contestant ∷ seated_already ∷ seat_taken ∷ [])
      (own_unhindered state (command.Seat name pair place) unhindered)))))

  -- so users still have one seat each
  pub seats_still_apart : AreSeated state.roles state.seats → AreSeated state.roles
      (state.seats ++ record { name = name; seat = record { pair = pair; place = place } } ∷ [])
  seats_still_apart are =
      one_more_sits state.roles state.seats (record { name = name; seat = record { pair = pair; place = place } }) are
      seats_a_user seats_nobody_twice

  pub seats_at_a_pair : is_pair_of state.public.movement pair ≡ true
  unfolding no_pair other_direction no_contestant seated_already seat_taken
  seats_at_a_pair =
      was_not (is_pair_of state.public.movement pair)
      (not_met _ NoSuchPair
      (first_unmet no_pair (other_direction ∷ no_contestant ∷ seated_already ∷ seat_taken ∷ [])
      (own_unhindered state (command.Seat name pair place) unhindered)))

  pub seats_on_its_side : is_of_side pair place ≡ true
  unfolding no_pair other_direction no_contestant seated_already seat_taken
  seats_on_its_side =
      was_not (is_of_side pair place)
      (not_met _ WrongDirection
      (first_unmet other_direction (no_contestant ∷ seated_already ∷ seat_taken ∷ [])
      (rest_unmet no_pair (other_direction ∷ no_contestant ∷ seated_already ∷ seat_taken ∷ [])
      (own_unhindered state (command.Seat name pair place) unhindered))))

  pub seats_on_a_free_seat : is_taken state.seats (record { pair = pair; place = place }) ≡ false
  unfolding no_pair other_direction no_contestant seated_already seat_taken
  seats_on_a_free_seat =
      not_met (is_taken state.seats (record { pair = pair; place = place })) SeatTaken
      (first_unmet seat_taken []
      (rest_unmet seated_already (seat_taken ∷ [])
      (rest_unmet no_contestant (seated_already ∷ seat_taken ∷ [])
      (rest_unmet other_direction (no_contestant ∷ seated_already ∷ seat_taken ∷ [])
      (rest_unmet no_pair (other_direction ∷ no_contestant ∷ seated_already ∷ seat_taken ∷ [])
      (own_unhindered state (command.Seat name pair place) unhindered))))))

  -- so a seat still has at most one user, and is one of the movement's
  pub seats_still_placed : AreSeatsOf state.public.movement state.seats →
      AreSeatsOf state.public.movement
      (state.seats ++ record { name = name; seat = record { pair = pair; place = place } } ∷ [])
  seats_still_placed are =
      one_more_placed state.public.movement state.seats
      (record { name = name; seat = record { pair = pair; place = place } }) are
      (record { pair = seats_at_a_pair; place = seats_on_its_side }) seats_on_a_free_seat
