-- Any number of runs of a server, one after another.
use Rattle.std.specs.Prelude.{◌≡◌, ℕ, List, [], ◌∷◌, ◌++◌, Contains}
use Rattle.session_commands.specs.declared.entry.Entry.{Entry}
use Rattle.session_state.specs.SessionState.{SessionState}
use Rattle.session_queries.specs.declared.reply.Reply.{Reply}
use Rattle.published_view.specs.History.{IsGivenIn}
use Rattle.published_view.specs.World.{Reading, Moment, IsHistory, now}
use Rattle.continued_history.specs.Publications.{publications_of}
use Rattle.continued_history.specs.Restart.{NoneFrom, IsLeft}

-- a run: what its start entered again, what happened then, and how many displays it had
pub record Run : Type 0 where
  pub again : List Moment
  pub later : List Moment
  pub displays : ℕ

-- a run that goes on from what was left of these publications
pub record GoesOnFrom (opening : SessionState) (published : List (List Entry)) (run : Run) : Type 0 where
  pub happened : IsHistory opening (run.later ++ run.again)
  pub found : IsLeft published (publications_of run.again)
  pub unseen : NoneFrom 0 (now run.again)
  pub none : NoneFrom run.displays (now (run.later ++ run.again))

-- what the newest of the runs has published, of which the newest comes first: before the first one nothing is
abbrev pub published_in : List Run → List (List Entry)
published_in [] = []
published_in (run ∷ earlier) = publications_of (run.later ++ run.again)

-- runs of a server, the newest first: each went on from what was left of the one before. A start that ended before it
-- served anybody is no run, since it published nothing that wasn't published before
abbrev pub AreRuns : SessionState → List Run → Type 0
AreRuns opening [] = Unit {0}
AreRuns opening (run ∷ earlier) = GoesOnFrom opening (published_in earlier) run × AreRuns opening earlier

-- a history of all runs: it has the publications of the newest, and each reply of any of them is given there, by some
-- display's number
pub record IsOfAll (runs : List Run) (history : List Moment) : Type 0 where
  pub published : publications_of history ≡ published_in runs
  pub replies : (run : Run) (reading : Reading) (reply : Reply) → Contains runs run →
      IsGivenIn run.later reading reply →
      (display : ℕ) × IsGivenIn history (record reading { display = display }) reply
