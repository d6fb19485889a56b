-- A hall from its first client on.
use Rattle.std.proofs.Common.{◌≡◌, ◌≢◌, ◌+◌, ◌≤◌, ℕ, List, [], Option, None, arith, refl, sym, ◌∙◌}
use Rattle.slab.specs.Slab.{Slab, get}
use Rattle.many_clients.specs.Hall.{HasTaken, IsHallStep, arrivals}
use Rattle.many_clients.specs.Talker.{Talker}
use Rattle.many_clients.proofs.HallLemmas.{taken_on}
use Rattle.hall_turns.specs.Serving.{ServesTalkers}
use Rattle.hall_turns.proofs.ServingLemmas.{serves_none, serves_on}
use Rattle.hall_threads.specs.Askers.{LeavesFewer, still_to_come}
use Rattle.hall_threads.specs.Hall.{HasServed, ServesHall}
use Rattle.hall_threads.specs.declared.askers.Askers.{Askers}
use Rattle.hall_threads.proofs.AskersLemmas.{leaves_same, leaves_on}

-- from an empty hall and so many connections that are to be accepted on the server came to be this, and the clients and who
-- asks these
pub record HasServedTo {S A G : Type 0} (remaining contents : S → Option (List ℕ))
    (answers : A → G → List ℕ → Option (List ℕ) → A → G → Type 0) (binary_text memory_text : List ℕ) (nobody : G)
    (connections : ℕ) (first : A) (askers : Askers S) (clients : Slab (Talker S G)) (server : A) : Type 0 where
  pub taken :
      HasTaken (IsHallStep remaining contents answers binary_text memory_text nobody) (λ _. None) first (get clients) server
  pub same : askers.connections ≡ connections
  pub left : connections ≢ 0 → arrivals taken.0 + still_to_come askers ≤ connections

module _ {S A G : Type 0} {remaining contents : S → Option (List ℕ)}
    {answers : A → G → List ℕ → Option (List ℕ) → A → G → Type 0} {binary_text memory_text : List ℕ} {nobody : G} where
  -- ---- a while

  -- clients are served, of whom so many were let in
  pub hall_serves : {let_in : ℕ} {askers askers_after : Askers S} {clients after : Slab (Talker S G)}
      {server server_after : A} →
      ServesTalkers remaining contents answers binary_text memory_text nobody let_in clients server after server_after →
      LeavesFewer let_in askers askers_after →
      ServesHall remaining contents answers binary_text memory_text nobody askers clients server askers_after after
      server_after
  hall_serves {let_in} serves fewer = record { let_in = let_in; serves = serves; fewer = fewer }

  -- nobody is
  pub hall_waits : {askers askers_after : Askers S} (clients : Slab (Talker S G)) (server : A) →
      LeavesFewer 0 askers askers_after →
      ServesHall remaining contents answers binary_text memory_text nobody askers clients server askers_after clients server
  hall_waits clients server fewer = hall_serves (serves_none clients server) fewer

  -- nothing is done
  pub hall_none : (askers : Askers S) (clients : Slab (Talker S G)) (server : A) →
      ServesHall remaining contents answers binary_text memory_text nobody askers clients server askers clients server
  hall_none askers clients server = hall_waits clients server (leaves_same askers askers refl)

  -- a while, and then another
  pub hall_on : {askers askers_between askers_after : Askers S} {clients between after : Slab (Talker S G)}
      {server server_between server_after : A} →
      ServesHall remaining contents answers binary_text memory_text nobody askers clients server askers_between between
      server_between →
      ServesHall remaining contents answers binary_text memory_text nobody askers_between between server_between askers_after
      after server_after →
      ServesHall remaining contents answers binary_text memory_text nobody askers clients server askers_after after
      server_after
  hall_on first later = hall_serves (serves_on first.serves later.serves) (leaves_on first.fewer later.fewer)

  -- ---- all of it

  -- at first nobody is there
  pub served_first : (connections : ℕ) (askers : Askers S) (clients : Slab (Talker S G)) (server : A) →
      askers.connections ≡ connections → still_to_come askers ≡ connections → ((key : ℕ) → get clients key ≡ None) →
      HasServedTo remaining contents answers binary_text memory_text nobody connections server askers clients server
  served_first connections askers clients server same left empty =
      record { taken = ([], (empty, refl)); same = same; left = λ _. omega (arith, left) }

  -- more is done
  pub served_on : {connections : ℕ} {first : A} {askers askers_after : Askers S} {clients after : Slab (Talker S G)}
      {server server_after : A} →
      HasServedTo remaining contents answers binary_text memory_text nobody connections first askers clients server →
      ServesHall remaining contents answers binary_text memory_text nobody askers clients server askers_after after
      server_after →
      HasServedTo remaining contents answers binary_text memory_text nobody connections first askers_after after server_after
  served_on {connections} {first} {askers} {askers_after} {clients} {after} {server} {server_after} served more =
      let (both, sum) =
      taken_on (IsHallStep remaining contents answers binary_text memory_text nobody) (λ _. None) first (get clients)
      server more.serves.taken.0 (get after) server_after served.taken more.serves.taken.1 in
      record {
        taken = both;
        same = more.fewer.same ∙ served.same;
        left =
            λ some. within (arrivals both.0) _ _ _ _ sum more.serves.few
            (more.fewer.left (λ none. some (sym served.same ∙ none))) (served.left some);
      }
    where
      within : (all in_more so_far left_after left : ℕ) → all ≡ in_more + so_far → in_more ≤ more.let_in →
          more.let_in + left_after ≤ left → so_far + left ≤ connections → all + left_after ≤ connections
      within all in_more so_far left_after left sum few fewer before = omega arith

  -- and then it is served
  pub served_at_last : {connections : ℕ} {first : A} {askers : Askers S} {clients : Slab (Talker S G)} {server : A} →
      HasServedTo remaining contents answers binary_text memory_text nobody connections first askers clients server →
      HasServed remaining contents answers binary_text memory_text nobody connections first server
  served_at_last {connections} {first} {askers} {clients} {server} served =
      (get clients, served.taken, λ some. below _ _ _ (served.left some))
    where
      below : (came left connections : ℕ) → came + left ≤ connections → came ≤ connections
      below came left connections within = omega arith
