-- The clients of one thread, each at a key of its own, who take turns over one server. Whoever's turn it is, the others'
-- places stay as they are; so each client's turns follow one another as if it were alone.
use Rattle.std.specs.Prelude.{◌≡◌, ◌≢◌, ◌⊎◌, ◌==◌, ◌+◌, ℕ, Bool, true, false, List, [], ◌∷◌, Option, Some, None}
use Rattle.tungstenite.specs.Socket.{Socket}
use Rattle.many_clients.specs.Talker.{Talker, IsAtStart, newcomer_on}
use Rattle.many_clients.specs.Turns.{IsTurnOf}
use Rattle.many_clients.specs.declared.turn_end.TurnEnd.{TurnEnd}

-- one client's turn, its coming, or its going: at this key, from who was there to who is, over one server
pub record HallStep (P A : Type 0) : Type 0 where
  pub key : ℕ
  pub was : Option P
  pub is : Option P
  pub server : A
  pub server_after : A

-- how many come in a step, by who was at its place and who is: one, where somebody is and nobody was
abbrev pub newcomers : {P : Type 0} → Option P → Option P → ℕ
newcomers None None = 0
newcomers None (Some client) = 1
newcomers (Some client) is = 0

module _ {P A : Type 0} where
  -- a step that is so, from these places and this server to those: no other place is touched
  pub record IsTaken (Is : HallStep P A → Type 0) (step : HallStep P A) (places : ℕ → Option P) (server : A)
      (places_after : ℕ → Option P) (server_after : A) : Type 0 where
    pub was : places step.key ≡ step.was
    pub is : places_after step.key ≡ step.is
    pub others : (other : ℕ) → other ≢ step.key → places_after other ≡ places other
    pub begins : step.server ≡ server
    pub leaves : step.server_after ≡ server_after
    pub holds : Is step

  -- steps that are so, one after another, the newest first: each begins where the one before it left the server
  abbrev pub AreTaken : (HallStep P A → Type 0) → List (HallStep P A) → (ℕ → Option P) → A → (ℕ → Option P) → A → Type 0
  AreTaken Is [] places server places_after server_after =
      ((key : ℕ) → places_after key ≡ places key) × (server_after ≡ server)
  AreTaken Is (step ∷ earlier) places server places_after server_after =
      (between : ℕ → Option P) × (server_between : A) × AreTaken Is earlier places server between server_between
      × IsTaken Is step between server_between places_after server_after

  -- some steps are so, one after another
  abbrev pub HasTaken : (HallStep P A → Type 0) → (ℕ → Option P) → A → (ℕ → Option P) → A → Type 0
  HasTaken Is places server places_after server_after =
      (steps : List (HallStep P A)) × AreTaken Is steps places server places_after server_after

  -- how many came in these steps
  abbrev pub arrivals : List (HallStep P A) → ℕ
  arrivals [] = 0
  arrivals (step ∷ earlier) = newcomers step.was step.is + arrivals earlier

  abbrev pub kept_if : Bool → HallStep P A → List (HallStep P A) → List (HallStep P A)
  kept_if true step steps = step ∷ steps
  kept_if false step steps = steps

  -- the steps at a key
  abbrev pub steps_at : ℕ → List (HallStep P A) → List (HallStep P A)
  steps_at key [] = []
  steps_at key (step ∷ earlier) = kept_if (step.key == key) step (steps_at key earlier)

  -- steps that follow one another at one place, the newest first: each begins where the one before it had left
  abbrev pub FollowAtOne : List (HallStep P A) → Option P → Option P → Type 0
  FollowAtOne [] start last = last ≡ start
  FollowAtOne (step ∷ earlier) start last = FollowAtOne earlier start step.was × (last ≡ step.is)

-- over streams whose bytes are known so, for a server that answers a text of a guest's connection so, a binary message so,
-- and so without memory, where nobody is signed in on a new connection
module _ {S A G : Type 0} (remaining contents : S → Option (List ℕ))
    (answers : A → G → List ℕ → Option (List ℕ) → A → G → Type 0) (binary_text memory_text : List ℕ) (nobody : G) where
  -- a turn of the client at a place
  pub record IsTurnAt (step : HallStep (Talker S G) A) : Type 0 where
    pub before : Talker S G
    pub after : Talker S G
    pub end : TurnEnd
    pub began : step.was ≡ Some before
    pub ended : step.is ≡ Some after
    pub turn : IsTurnOf remaining contents answers binary_text memory_text end before step.server after step.server_after

  -- a client comes to a place where nobody was, with a socket of its own that has read and written no message, and nobody is
  -- signed in on its connection
  pub record IsArrival (step : HallStep (Talker S G) A) : Type 0 where
    pub socket : Socket S
    pub starts : IsAtStart socket
    pub free : step.was ≡ None
    pub comes : step.is ≡ Some (newcomer_on socket nobody)
    pub unheard : step.server_after ≡ step.server

  -- a client goes
  pub record IsDeparture (step : HallStep (Talker S G) A) : Type 0 where
    pub goes : step.is ≡ None
    pub unheard : step.server_after ≡ step.server

  -- a turn, a coming, or a going
  abbrev pub IsHallStep : HallStep (Talker S G) A → Type 0
  IsHallStep step = IsTurnAt step ⊎ (IsArrival step ⊎ IsDeparture step)

  -- who is at a place came there as nobody, and took all turns since, of which the newest comes first: the steps at the
  -- place as far as its coming
  abbrev pub HasVisited : List (HallStep (Talker S G) A) → Talker S G → Type 0
  HasVisited [] client = ⊥
  HasVisited (step ∷ earlier) client =
      (step.is ≡ Some client)
      × (IsArrival step ⊎ ((turn : IsTurnAt step) × HasVisited earlier turn.before))
