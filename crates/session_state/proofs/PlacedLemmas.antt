-- No seat has two users, and each that is taken is one of the section's: what keeps that so.
use Rattle.std.proofs.Common.{◌≡◌, ℕ, false, List, [], ◌∷◌, ◌++◌, ap, ◌∙◌}
use Rattle.std.specs.Prelude.{not}
use Rattle.std.specs.List.{list_any}
use Rattle.std.specs.Cmp.{IsEquivalence, and_equiv, decided, on_equiv, nat_eq_equiv}
use Rattle.std.proofs.lemmas.List.Elements.{All-filter, All-nil, All-push}
use Rattle.std.proofs.lemmas.Map.Keys.{IsDistinct-push}
use Rattle.table_terms.specs.Place.{place_number}
use Rattle.movement.specs.Movement.{Section}
use Rattle.movement.specs.Movement.{same_pair}
use Rattle.session_state.proofs.movement_lemmas.ScheduleTests.{pair_decides}
use Rattle.rbac.specs.Account.{same_name}
use Rattle.rbac.proofs.ListLemmas.{distinct_filter, distinct_none}
use Rattle.disclosure_rules.specs.declared.seat.Seat.{Seat}
use Rattle.session_state.specs.declared.seated.Seated.{Seated}
use Rattle.session_state.specs.Seats.{same_seat, share_seat, is_taken, without_seat, IsSeatOf, AreSeatsOf}

same_seat_equiv : IsEquivalence same_seat
same_seat_equiv =
    and_equiv (on_equiv (λ (seat : Seat). seat.pair) (decided same_pair pair_decides))
    (on_equiv (λ (seat : Seat). place_number seat.place) nat_eq_equiv)

share_seat_equiv : IsEquivalence share_seat
share_seat_equiv = on_equiv (λ (seated : Seated). seated.seat) same_seat_equiv

pub nobody_placed : (section : Section) → AreSeatsOf section []
nobody_placed section = record {
  apart = distinct_none share_seat;
  own = All-nil (λ (seated : Seated). IsSeatOf section seated.seat);
}

-- one user takes a seat that is free
pub one_more_placed : (section : Section) (seats : List Seated) (seated : Seated) → AreSeatsOf section seats →
    IsSeatOf section seated.seat → is_taken seats seated.seat ≡ false → AreSeatsOf section (seats ++ seated ∷ [])
one_more_placed section seats seated are own free = record {
  apart = IsDistinct-push share_seat_equiv seats seated are.apart
      (ap (λ test. list_any test seats) (λ i (other : Seated). same_seat_equiv.symm seated.seat other.seat i) ∙ free);
  own = All-push (λ (other : Seated). IsSeatOf section other.seat) seats seated are.own own;
}

-- one user leaves a seat
pub one_less_placed : (section : Section) (seats : List Seated) (name : List ℕ) → AreSeatsOf section seats →
    AreSeatsOf section (without_seat seats name)
one_less_placed section seats name are = record {
  apart = distinct_filter share_seat (λ (seated : Seated). not (same_name seated.name name)) seats are.apart;
  own = All-filter (λ (seated : Seated). not (same_name seated.name name))
      (λ (seated : Seated). IsSeatOf section seated.seat) seats are.own;
}
