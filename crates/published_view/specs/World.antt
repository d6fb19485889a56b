-- A session while it is played: what its desks, the solver and its displays do, one thing after another, in any order.
--
-- own: the steps are this project's. Each is one change of what is published, or one look at it.
use Rattle.std.specs.Prelude.{◌≡◌, ◌≤◌, ℕ, Bool, max, nat_eq, nat_lt, if◌then◌else◌, Option, Some, IfSome}
use Rattle.std.specs.Prelude.{List, [], ◌∷◌, length, take, Contains}
use Rattle.session_commands.specs.declared.actor.Actor.TheVariants.{Solver}
use Rattle.session_commands.specs.declared.command.Command.{Command}
use Rattle.session_commands.specs.declared.entry.Entry.{Entry}
use Rattle.session_state.specs.SessionState.{SessionState}
use Rattle.session_book.specs.declared.answer.Answer.{Answer}
use Rattle.session_book.specs.Journal.{Ledger}
use Rattle.session_book.specs.Run.{Progress, Runs, IsTried}
use Rattle.session_queries.specs.declared.query.Query.{Query}
use Rattle.session_queries.specs.declared.reply.Reply.{Reply}
use Rattle.published_view.specs.View.{reply_after}

-- a session at a moment: the journal of its accepted entries, the versions of it that were published, the newest
-- first, and the version that each display, by its number, has seen. A version is so many entries as the journal
-- begins with
pub record World : Type 0 where
  pub journal : List Entry
  pub published : List ℕ
  pub seen : ℕ → ℕ

-- at the opening the journal is empty, and that is published and seen by every display
abbrev pub opened : World
opened = record { journal = []; published = 0 ∷ []; seen = λ display. 0 }

-- with the journal as a batch leaves it: it is published, once, where some entry was accepted, and else nothing is
abbrev pub with_journal : World → List Entry → World
with_journal world journal = record {
  journal = journal;
  published =
      if nat_lt (length world.journal) (length journal) then length journal ∷ world.published else world.published;
  seen = world.seen;
}

-- with a display that has seen a version
abbrev pub with_seen : World → ℕ → ℕ → World
with_seen world display version = record {
  journal = world.journal;
  published = world.published;
  seen = λ other. if nat_eq other display then version else world.seen other;
}

-- a display reads for a user's query, which wants a version since a given one: the version at which it reads, and the
-- reply, or none where memory was refused
pub record Reading : Type 0 where
  pub display : ℕ
  pub user : List ℕ
  pub query : Query
  pub since : ℕ
  pub version : ℕ
  pub reply : Option Reply

-- a reading at the version of the whole journal
abbrev pub newest : World → ℕ → List ℕ → Query → ℕ → Option Reply → Reading
newest world display user query since reply = record {
  display = display;
  user = user;
  query = query;
  since = since;
  version = length world.journal;
  reply = reply;
}

-- what may happen. What the solver found is seen as the deal, the contract and the cards that it is of, since its type
-- keeps that the numbers are theirs
pub data Step : Type 0 where
  -- a desk submits a user's batch
  Submit : List ℕ → List Command → Step
  -- the solver submits what it found
  Solve : Command → Step
  -- a display learns of a version
  Learn : ℕ → ℕ → Step
  -- a display reads
  Read : Reading → Step

-- a user's batch is run, all of it or up to a command at which memory is refused
pub record Submits (opening : SessionState) (before : World) (actor : List ℕ) (batch : List Command) (after : World)
    : Type 0 where
  pub stopped : Bool
  pub progress : Progress
  pub ran : Runs stopped opening before.journal actor batch progress
  pub leaves : after ≡ with_journal before progress.journal

-- a book with a journal; for how many more entries it has room refuses nothing
abbrev pub book_with : SessionState → List Entry → Ledger
book_with opening journal = record { opening = opening; journal = journal; spare = 0 }

-- the solver's command is tried
pub record Solves (opening : SessionState) (before : World) (command : Command) (after : World) : Type 0 where
  pub answer : Answer
  pub journal : List Entry
  pub tried : IsTried (book_with opening before.journal) Solver command answer (book_with opening journal)
  pub leaves : after ≡ with_journal before journal

-- a display learns of a version that was published; the newer of this one and the one that it had seen is then seen
pub record Learns (before : World) (display version : ℕ) (after : World) : Type 0 where
  pub published : Contains before.published version
  pub leaves : after ≡ with_seen before display (max (before.seen display) version)

-- a display reads at a version that was published and is no older than what it has seen. The reply, if there is one,
-- is that of the entries of this version; with a reply or without one, the display has then seen it
pub record ReadsVersion (opening : SessionState) (before : World) (reading : Reading) (after : World) : Type 0 where
  pub published : Contains before.published reading.version
  pub not_older : before.seen reading.display ≤ reading.version
  pub reply : IfSome reading.reply (λ reply.
      reply ≡ reply_after opening (take reading.version before.journal) reading.user reading.query reading.since)
  pub leaves : after ≡ with_seen before reading.display reading.version

-- what each step makes of a session
abbrev pub Happens : SessionState → World → Step → World → Type 0
Happens opening before (Submit actor batch) after = Submits opening before actor batch after
Happens opening before (Solve command) after = Solves opening before command after
Happens opening before (Learn display version) after = Learns before display version after
Happens opening before (Read reading) after = ReadsVersion opening before reading after

-- a step, and what the session is after it
pub record Moment : Type 0 where
  pub step : Step
  pub after : World

-- what a session is after the moments of a history, of which the newest comes first
abbrev pub now : List Moment → World
now [] = opened
now (moment ∷ earlier) = moment.after

-- a history: each step was taken by the session as it was then
abbrev pub IsHistory : SessionState → List Moment → Type 0
IsHistory opening [] = Unit {0}
IsHistory opening (moment ∷ earlier) =
    Happens opening (now earlier) moment.step moment.after × IsHistory opening earlier

-- any step may be next: anybody's batch; any command of the solver's; that a display learns of any published version;
-- and a reading by any display for any user's query, which is at the newest version and gives a reply
pub record MayGoOn (opening : SessionState) (world : World) : Type 0 where
  pub batch : (actor : List ℕ) (batch : List Command) → (after : World) × Submits opening world actor batch after
  pub result : (command : Command) → (after : World) × Solves opening world command after
  pub version : (display version : ℕ) → Contains world.published version →
      (after : World) × Learns world display version after
  pub query : (display : ℕ) (user : List ℕ) (query : Query) (since : ℕ) →
      (reply : Reply) × (after : World)
      × ReadsVersion opening world (newest world display user query since (Some reply)) after
