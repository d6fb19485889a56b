-- What is done with the clients of a hall who talk: steps of theirs, one after another.
use Rattle.std.specs.Prelude.{◌≤◌, ℕ, List, Option}
use Rattle.slab.specs.Slab.{Slab, get}
use Rattle.many_clients.specs.Hall.{HasTaken, IsHallStep, arrivals}
use Rattle.many_clients.specs.Talker.{Talker}

-- over streams whose bytes are known so, for a server that answers a text of a guest's connection so, a binary message so,
-- and so without memory, where nobody is signed in on a new connection: clients came, so many of them at most, took turns over
-- the server and went, so that from these clients and this server they came to be those
pub record ServesTalkers {S A G : Type 0} (remaining contents : S → Option (List ℕ))
    (answers : A → G → List ℕ → Option (List ℕ) → A → G → Type 0) (binary_text memory_text : List ℕ) (nobody : G)
    (most : ℕ) (clients : Slab (Talker S G)) (server : A) (clients_after : Slab (Talker S G)) (server_after : A)
    : Type 0 where
  pub taken :
      HasTaken (IsHallStep remaining contents answers binary_text memory_text nobody)
      (get clients) server (get clients_after) server_after
  pub few : arrivals taken.0 ≤ most
