-- A hall on one thread, from the first client to the last.
use Rattle.std.specs.Prelude.{◌≢◌, ◌≤◌, ℕ, List, Option, None}
use Rattle.slab.specs.Slab.{Slab}
use Rattle.many_clients.specs.Hall.{HasTaken, IsHallStep, arrivals}
use Rattle.many_clients.specs.Talker.{Talker}
use Rattle.hall_turns.specs.Serving.{ServesTalkers}
use Rattle.hall_threads.specs.Askers.{LeavesFewer}
use Rattle.hall_threads.specs.declared.askers.Askers.{Askers}

-- over streams whose bytes are known so, for a server that answers a text of a guest's connection so, a binary message so,
-- and so without memory, where nobody is signed in on a new connection: from an empty hall on clients came, took turns over
-- the server and went, and so it came to be what it is; and where so many connections are to be accepted, and not all that
-- come, no more clients came than that
abbrev pub HasServed : {S A G : Type 0} → (S → Option (List ℕ)) → (S → Option (List ℕ)) →
    (A → G → List ℕ → Option (List ℕ) → A → G → Type 0) → List ℕ → List ℕ → G → ℕ → A → A → Type 0
HasServed {S} {A} {G} remaining contents answers binary_text memory_text nobody connections server server_after =
    (places : ℕ → Option (Talker S G))
    × (taken : HasTaken (IsHallStep remaining contents answers binary_text memory_text nobody) (λ _. None) server places
    server_after)
    × (connections ≢ 0 → arrivals taken.0 ≤ connections)

-- ---- for private clauses

-- over such streams, for such a server: some of those who asked were let in, and clients took turns over the server and went,
-- so that from these who ask, these clients and this server they came to be those
pub record ServesHall {S A G : Type 0} (remaining contents : S → Option (List ℕ))
    (answers : A → G → List ℕ → Option (List ℕ) → A → G → Type 0) (binary_text memory_text : List ℕ) (nobody : G)
    (askers : Askers S) (clients : Slab (Talker S G)) (server : A) (askers_after : Askers S)
    (clients_after : Slab (Talker S G)) (server_after : A) : Type 0 where
  pub let_in : ℕ
  pub serves :
      ServesTalkers remaining contents answers binary_text memory_text nobody let_in clients server clients_after
      server_after
  pub fewer : LeavesFewer let_in askers askers_after
