-- No two users with whom a session opens have one seat, and each seat is one of the movement's.
use Rattle.std.proofs.Common.{
  ◌≡◌,
  ℕ,
  zero,
  suc,
  ◌+◌,
  ◌<◌,
  ◌≤◌,
  List,
  [],
  ◌∷◌,
  ◌++◌,
  length,
  take,
  get_or,
  None,
  sym,
  subst,
  arith,
}
use Rattle.std.specs.Prelude.{Option, Some, not}
use Rattle.std.specs.Bool.{then_some}
use Rattle.std.proofs.lemmas.List.{append-nil, take_all}
use Rattle.movement.specs.Movement.{Section, is_pair_of}
use Rattle.session_roles.specs.declared.edition.Edition.{Edition}
use Rattle.session_roles.specs.Role.{has}
use Rattle.session_roles.specs.declared.role.Role.TheVariants.{Contestant}
use Rattle.disclosure_rules.specs.declared.seat.Seat.{Seat}
use Rattle.session_opening.specs.declared.config.Config.{Config}
use Rattle.session_opening.specs.declared.new_user.NewUser.{NewUser}
use Rattle.session_opening.specs.declared.opening_refusal.OpeningRefusal.TheVariants.{
  NoSuchPair,
  WrongDirection,
  NotContestant,
  SeatTaken,
}
use Rattle.session_state.specs.Refusal.{first_cause}
use Rattle.session_state.specs.Seats.{is_of_side, is_taken, AreSeatsOf}
use Rattle.session_opening.specs.NewUser.{authorized_at_opening}
use Rattle.session_opening.specs.Opening.{opening_seats}
use Rattle.session_opening.specs.OpeningRefusal.{seat_causes, opening_refusal}
use Rattle.session_state.proofs.PlacedLemmas.{nobody_placed, one_more_placed}
use Rattle.session_opening.proofs.OpeningLemmas.{seats_more}
use Rattle.session_opening.proofs.OpeningRefusalLemmas.{none_parts, not_met, was_met, users_sit}

-- one user more, in whose seat no cause is met
user_placed : (edition : Edition) (movement : Section) (before : List NewUser) (user : NewUser) →
    AreSeatsOf movement (opening_seats before) → (seat : Option Seat) →
    first_cause (seat_causes edition movement before user seat) ≡ None →
    AreSeatsOf movement (opening_seats before ++ opening_seats ((record user { seat = seat }) ∷ []))
user_placed edition movement before user are None none =
    subst (AreSeatsOf movement) (sym (append-nil (opening_seats before))) are
user_placed edition movement before user are (Some seat) none =
    let a = none_parts (then_some (not (is_pair_of movement seat.pair)) NoSuchPair) _ none in
    let b = none_parts (then_some (not (is_of_side seat.pair seat.place)) WrongDirection) _ a.1 in
    let c = none_parts (then_some (not (has (authorized_at_opening edition user) Contestant)) NotContestant) _ b.1 in
    let d = none_parts (then_some (is_taken (opening_seats before) seat) SeatTaken) _ c.1 in
    one_more_placed movement (opening_seats before) (record { name = user.name; seat = seat }) are
    (record {
      pair = was_met (is_pair_of movement seat.pair) (not_met _ NoSuchPair a.0);
      place = was_met (is_of_side seat.pair seat.place) (not_met _ WrongDirection b.0);
    })
    (not_met _ SeatTaken d.0)

-- none of the causes in their seats is met
abbrev SitFreely : Edition → Section → List NewUser → Type 0
SitFreely edition movement users =
    (k : ℕ) (d : NewUser) → k < length users →
    first_cause (seat_causes edition movement (take k users) (get_or users k d) (get_or users k d).seat) ≡ None

placed_so_far : (edition : Edition) (movement : Section) (first : NewUser) (rest : List NewUser) →
    SitFreely edition movement (first ∷ rest) → (n : ℕ) → n ≤ length (first ∷ rest) →
    AreSeatsOf movement (opening_seats (take n (first ∷ rest)))
placed_so_far edition movement first rest free zero within = nobody_placed movement
placed_so_far edition movement first rest free (suc n) within =
    let all : List NewUser = first ∷ rest in
    let below : n < length all = omega (arith, within) in
    let user : NewUser = get_or all n first in
    let more = user_placed edition movement (take n all) user
    (placed_so_far edition movement first rest free n (omega (arith, within))) user.seat (free n first below) in
    let next : n + 1 ≡ suc n = omega arith in
    subst (λ k. AreSeatsOf movement (opening_seats (take k all))) next
    (subst (AreSeatsOf movement) (seats_more all n first below) more)

users_placed : (edition : Edition) (movement : Section) (users : List NewUser) → SitFreely edition movement users →
    AreSeatsOf movement (opening_seats users)
users_placed edition movement [] free = nobody_placed movement
users_placed edition movement (first ∷ rest) free =
    subst (λ users. AreSeatsOf movement (opening_seats users)) (take_all (length (first ∷ rest)) (first ∷ rest)
    (omega arith))
    (placed_so_far edition movement first rest free (length (first ∷ rest)) (omega arith))

pub opening_placed : (config : Config) → opening_refusal config ≡ None → AreSeatsOf config.movement
    (opening_seats config.users)
opening_placed config none = users_placed config.edition config.movement config.users (users_sit config none)
