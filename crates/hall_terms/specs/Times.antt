-- own: until when a client may go on, in milliseconds of one clock, by what has happened on its connection. Its connection
-- ends at one time, which each event of its history sets or leaves.
use Rattle.std.specs.Prelude.{◌≡◌, ◌+◌, ◌*◌, ℕ, true, false, List, [], ◌∷◌, Option, Some, None, min}
use Rattle.hall_terms.specs.declared.client_event.ClientEvent.{ClientEvent}
use Rattle.hall_terms.specs.declared.client_event.ClientEvent.TheVariants.{Accepted, Upgraded, Heard, Waits, Taken}
use Rattle.hall_terms.specs.declared.client_stage.ClientStage.{ClientStage}
use Rattle.hall_terms.specs.declared.client_stage.ClientStage.TheVariants.{Asking, Stranger, SignedIn}
use Rattle.hall_terms.specs.declared.client_time.ClientTime.{ClientTime}

-- an event, and when it came
pub record Happening : Type 0 where
  pub event : ClientEvent
  pub at : ℕ

-- from being accepted a client has ten seconds to be let in, and from then on ten to sign in
abbrev pub greeting_time : ℕ
greeting_time = 10000

-- it has thirty to take what is sent to it
abbrev pub taking_time : ℕ
taking_time = 30000

-- ---- how far it has come

abbrev pub stage_after : ClientEvent → ClientStage → ClientStage
stage_after Accepted stage = Asking
stage_after Upgraded stage = Stranger
stage_after (Heard true) stage = SignedIn
stage_after (Heard false) stage = Stranger
stage_after Waits stage = stage
stage_after Taken stage = stage

-- by a history, of which the newest comes first
abbrev pub stage_of : List Happening → ClientStage
stage_of [] = Asking
stage_of (now ∷ earlier) = stage_after now.event (stage_of earlier)

-- ---- until when it has to do what its stage asks of it

-- what a client did whose answer is taken: one who is signed in may think again as long as it may
abbrev pub until_taken : ℕ → ℕ → ClientStage → ℕ → ℕ
until_taken idle at Asking until = until
until_taken idle at Stranger until = until
until_taken idle at SignedIn until = at + 1000 * idle

-- one who is signed in has so many seconds from whatever is read of it; what others send moves nothing
abbrev pub until_after : ℕ → ClientEvent → ℕ → ClientStage → ℕ → ℕ
until_after idle Accepted at stage until = at + greeting_time
until_after idle Upgraded at stage until = at + greeting_time
until_after idle (Heard true) at stage until = at + 1000 * idle
until_after idle (Heard false) at stage until = until
until_after idle Waits at stage until = until
until_after idle Taken at stage until = until_taken idle at stage until

abbrev pub until_of : ℕ → List Happening → ℕ
until_of idle [] = 0
until_of idle (now ∷ earlier) = until_after idle now.event now.at (stage_of earlier) (until_of idle earlier)

-- ---- until when it has to take what is sent to it

-- the time begins with the first part that waits, and no part that it takes moves it
abbrev pub until_waited : ℕ → Option ℕ → Option ℕ
until_waited at None = Some (at + taking_time)
until_waited at (Some until) = Some until

abbrev pub taking_after : ClientEvent → ℕ → Option ℕ → Option ℕ
taking_after Accepted at until = None
taking_after Upgraded at until = None
taking_after (Heard known) at until = until
taking_after Waits at until = until_waited at until
taking_after Taken at until = None

abbrev pub taking_of : List Happening → Option ℕ
taking_of [] = None
taking_of (now ∷ earlier) = taking_after now.event now.at (taking_of earlier)

-- ---- when it is late

-- who takes an answer has the time for it; but to sign in nobody has longer
abbrev pub late_from : ClientStage → ℕ → Option ℕ → ℕ
late_from stage until None = until
late_from Asking until (Some taking) = taking
late_from Stranger until (Some taking) = min until taking
late_from SignedIn until (Some taking) = taking

-- by its history, where one who is signed in has so many seconds from one message to the next
abbrev pub late_at : ℕ → List Happening → ℕ
late_at idle history = late_from (stage_of history) (until_of idle history) (taking_of history)

-- a time is that of a history
pub record IsTimeOf (idle : ℕ) (history : List Happening) (time : ClientTime) : Type 0 where
  pub stage : time.stage ≡ stage_of history
  pub until : time.until ≡ until_of idle history
  pub taking : time.taking ≡ taking_of history
