-- A session that is served again after its server ended: what happens then goes on from what happened before.
--
-- own: displays of the later run have numbers of their own, above those of the run before.
use Rattle.std.specs.Prelude.{◌≡◌, ◌⊎◌, ◌≤◌, ℕ, ◌+◌, ◌-◌, nat_lt, if◌then◌else◌}
use Rattle.std.specs.Prelude.{List, [], ◌∷◌, ◌++◌, length, map, take, Contains}
use Rattle.session_commands.specs.declared.entry.Entry.{Entry}
use Rattle.session_state.specs.SessionState.{SessionState}
use Rattle.session_book.specs.Journal.{IsAccepted}
use Rattle.session_queries.specs.declared.reply.Reply.{Reply}
use Rattle.published_view.specs.History.{IsGivenIn}
use Rattle.published_view.specs.World.{World, Reading, Step, Moment, IsHistory, now}
use Rattle.published_view.specs.World.Step.{Submit, Solve, Learn, Read}
use Rattle.continued_history.specs.Publications.{publications_of}

-- ---- an end and a start

-- no display from this number on has seen anything
abbrev pub NoneFrom : ℕ → World → Type 0
NoneFrom displays world = (display : ℕ) → displays ≤ display → world.seen display ≡ 0

-- what a start finds: just what was published; or one publication more, which was being kept when the server ended, and
-- which nobody had been shown
abbrev pub IsLeft : List (List Entry) → List (List Entry) → Type 0
IsLeft published found = (found ≡ published) ⊎ ((more : List Entry) × (found ≡ published ++ more ∷ []))

-- a run, its end, and a later run: the earlier one had so many displays; the start of the later one entered again what
-- it found, each publication by itself, and no display had seen anything yet; and the later one went on from there
pub record IsRestart (opening : SessionState) (run later : List Moment) : Type 0 where
  pub happened : IsHistory opening run
  pub displays : ℕ
  pub none : NoneFrom displays (now run)
  pub again : List Moment
  pub found : IsLeft (publications_of run) (publications_of again)
  pub unseen : NoneFrom 0 (now again)
  pub goes_on : IsHistory opening (later ++ again)

-- ---- both runs as one history

-- a step with which entries may join the journal, and no display sees anything
abbrev pub IsEntering : Step → Type 0
IsEntering (Submit actor batch) = Unit {0}
IsEntering (Solve command) = Unit {0}
IsEntering (Learn display version) = ⊥
IsEntering (Read reading) = ⊥

-- a run as a start finds it: as it was; or with one step more at its end, after all that anybody was shown
abbrev pub IsFoundAs : List Moment → List Moment → Type 0
IsFoundAs run ended = (ended ≡ run) ⊎ ((moment : Moment) × IsEntering moment.step × (ended ≡ moment ∷ run))

-- a reading of the later run, by its display's number in both
abbrev pub later_reading : ℕ → Reading → Reading
later_reading displays reading = record reading { display = displays + reading.display }

-- a step of the later run, by the displays' numbers in both
abbrev pub later_step : ℕ → Step → Step
later_step displays (Submit actor batch) = Submit actor batch
later_step displays (Solve command) = Solve command
later_step displays (Learn display version) = Learn (displays + display) version
later_step displays (Read reading) = Read (later_reading displays reading)

-- what the session is in the later run, beside what the displays of the run before had seen at its end
abbrev pub beside : ℕ → World → World → World
beside displays ended world = record {
  journal = world.journal;
  published = world.published;
  seen = λ display. if nat_lt display displays then ended.seen display else world.seen (display - displays);
}

-- the moments of the later run, in a history of both
abbrev pub later_moments : ℕ → World → List Moment → List Moment
later_moments displays ended moments =
    map (λ moment. record {
      step = later_step displays moment.step;
      after = beside displays ended moment.after;
    }) moments

-- a history of both runs: the earlier one, as the start found it, and behind it what happened in the later one. It has
-- come to the journal and to the publications of the later run, and each reply of either run is given there
pub record IsOfBoth {opening : SessionState} {run later : List Moment} (restart : IsRestart opening run later)
    (history : List Moment) : Type 0 where
  pub ended : List Moment
  pub found_as : IsFoundAs run ended
  pub both : history ≡ later_moments restart.displays (now ended) later ++ ended
  pub journal : (now history).journal ≡ (now (later ++ restart.again)).journal
  pub published : publications_of history ≡ publications_of (later ++ restart.again)
  pub earlier_replies : (reading : Reading) (reply : Reply) → IsGivenIn run reading reply →
      IsGivenIn history reading reply
  pub later_replies : (reading : Reading) (reply : Reply) → IsGivenIn later reading reply →
      IsGivenIn history (later_reading restart.displays reading) reply

-- ---- replies of either run

-- a reply that one of both runs gave
abbrev pub IsGivenInEither : List Moment → List Moment → Reading → Reply → Type 0
IsGivenInEither run later reading reply = IsGivenIn run reading reply ⊎ IsGivenIn later reading reply

-- a reply is of a version that stands published in a history: so many entries as its journal begins with, and they were
-- accepted
pub record IsOfVersion (opening : SessionState) (history : List Moment) (reply : Reply) : Type 0 where
  pub entries : List Entry
  pub version : reply.version ≡ length entries
  pub accepted : IsAccepted opening entries
  pub begins : take reply.version (now history).journal ≡ entries
  pub published : Contains (now history).published reply.version
