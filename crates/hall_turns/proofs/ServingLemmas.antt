-- Steps of a hall's clients, and more steps after them.
use Rattle.std.proofs.Common.{
  ◌≡◌,
  ◌≢◌,
  ◌+◌,
  ◌≤◌,
  ℕ,
  List,
  [],
  Option,
  Some,
  None,
  IsSome,
  IfSome,
  IfNone,
  OnSome,
  arith,
  refl,
  le_refl,
  le_of_eq,
}
use Rattle.std.specs.Prelude.{Result, Ok, Err, IfOk, OnErr}
use Rattle.slab.specs.Slab.{Slab, SameValues, get}
use Rattle.tungstenite.specs.Socket.{Socket}
use Rattle.many_clients.specs.Hall.{IsHallStep, arrivals}
use Rattle.many_clients.specs.Talker.{Talker, IsAtStart, newcomer_on}
use Rattle.many_clients.specs.Turns.{IsTurnOf}
use Rattle.many_clients.specs.declared.turn_end.TurnEnd.{TurnEnd}
use Rattle.many_clients.proofs.HallLemmas.{one_more, arrival_taken, departure_taken, taken_on}
use Rattle.hall_turns.specs.Serving.{ServesTalkers}

module _ {S A G : Type 0} {remaining contents : S → Option (List ℕ)}
    {answers : A → G → List ℕ → Option (List ℕ) → A → G → Type 0} {binary_text memory_text : List ℕ} {nobody : G} where
  -- nothing is done
  pub serves_none : (clients : Slab (Talker S G)) (server : A) →
      ServesTalkers remaining contents answers binary_text memory_text nobody 0 clients server clients server
  serves_none clients server = record { taken = ([], ((λ key. refl), refl)); few = le_refl 0 }

  -- something is done, and then something else
  pub serves_on : {most most_later : ℕ} {clients middle after : Slab (Talker S G)} {server server_middle server_after : A} →
      ServesTalkers remaining contents answers binary_text memory_text nobody most clients server middle server_middle →
      ServesTalkers remaining contents answers binary_text memory_text nobody most_later middle server_middle after
      server_after →
      ServesTalkers remaining contents answers binary_text memory_text nobody (most + most_later) clients server after
      server_after
  serves_on {most} {most_later} {clients} {middle} {after} {server} {server_middle} {server_after} first later =
      let (both, sum) =
      taken_on (IsHallStep remaining contents answers binary_text memory_text nobody) (get clients) server
      (get middle) server_middle later.taken.0 (get after) server_after first.taken later.taken.1 in
      record { taken = both; few = few_in_both (arrivals both.0) _ _ most most_later sum first.few later.few }
    where
      few_in_both : (all in_later in_first most most_later : ℕ) → all ≡ in_later + in_first → in_first ≤ most →
          in_later ≤ most_later → all ≤ most + most_later
      few_in_both all in_later in_first most most_later sum few few_later = omega arith

  -- a turn is taken, where somebody is
  pub serves_turn : (result : Option TurnEnd) (clients : Slab (Talker S G)) (server : A) (after : Slab (Talker S G))
      (server_after : A) (key : ℕ) → ((other : ℕ) → other ≢ key → get after other ≡ get clients other) →
      IfSome result (λ end. IfSome (get clients key) (λ p. IfSome (get after key) (λ q.
      IsTurnOf remaining contents answers binary_text memory_text end p server q server_after))) →
      OnSome result (IsSome (get clients key) × IsSome (get after key)) →
      IfNone result ((after ≡ clients) × (server_after ≡ server)) →
      ServesTalkers remaining contents answers binary_text memory_text nobody 0 clients server after server_after
  serves_turn result clients server after server_after key others turn stays nobody_there =
      let (taken, none) =
      one_more remaining contents answers binary_text memory_text nobody result (get clients) server clients server
      after server_after key ([], ((λ key. refl), refl)) others turn stays nobody_there in
      record { taken = taken; few = le_of_eq none }

  -- a client comes
  pub serves_arrival : (clients after : Slab (Talker S G)) (server : A) (key : ℕ) (socket : Socket S) →
      IsAtStart socket → get clients key ≡ None → get after key ≡ Some (newcomer_on socket nobody) →
      ((other : ℕ) → other ≢ key → get after other ≡ get clients other) →
      ServesTalkers remaining contents answers binary_text memory_text nobody 1 clients server after server
  serves_arrival clients after server key socket starts free comes others =
      let (taken, one) =
      arrival_taken remaining contents answers binary_text memory_text nobody clients after server key socket starts
      free comes others in
      record { taken = taken; few = le_of_eq one }

  -- a client comes, or there is no memory for it
  pub serves_admission : {E : Type 0} (result : Result ℕ E) (clients after : Slab (Talker S G)) (server : A)
      (socket : Socket S) → IsAtStart socket → IfOk result (λ key. get clients key ≡ None) →
      IfOk result (λ key. get after key ≡ Some (newcomer_on socket nobody)) →
      IfOk result (λ key. (other : ℕ) → other ≢ key → get after other ≡ get clients other) →
      OnErr result (SameValues clients after) →
      ServesTalkers remaining contents answers binary_text memory_text nobody 1 clients server after server
  serves_admission (Ok key) clients after server socket starts free comes others same =
      serves_arrival clients after server key socket starts free comes others
  serves_admission (Err error) clients after server socket starts free comes others same =
      record { taken = ([], (same, refl)); few = omega arith }

  -- a client goes
  pub serves_departure : (clients after : Slab (Talker S G)) (server : A) (key : ℕ) → get after key ≡ None →
      ((other : ℕ) → other ≢ key → get after other ≡ get clients other) →
      ServesTalkers remaining contents answers binary_text memory_text nobody 0 clients server after server
  serves_departure clients after server key goes others =
      let (taken, none) =
      departure_taken remaining contents answers binary_text memory_text nobody clients after server key goes others in
      record { taken = taken; few = le_of_eq none }
