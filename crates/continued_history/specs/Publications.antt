-- What a history publishes: publications, each the list of the entries that joined the journal with one step.
use Rattle.std.specs.Prelude.{◌≡◌, ◌⊎◌, ◌<◌, ℕ, ◌+◌}
use Rattle.std.specs.Prelude.{List, [], ◌∷◌, ◌++◌, All, drop, length, map, reverse}
use Rattle.session_commands.specs.declared.actor.Actor.TheVariants.{User, Solver}
use Rattle.session_commands.specs.declared.command.Command.{Command}
use Rattle.session_commands.specs.declared.entry.Entry.{Entry}
use Rattle.session_state.specs.SessionState.{SessionState}
use Rattle.session_book.specs.Journal.{IsAccepted}
use Rattle.history.specs.Prefixes.{entries_of}
use Rattle.published_view.specs.World.{Moment, now}

-- the entries of a user's commands
abbrev pub entries_by : List ℕ → List Command → List Entry
entries_by name commands = map (λ command. record { actor = User name; command = command }) commands

-- what was accepted of one user's batch
pub record AreOfUser (entries : List Entry) : Type 0 where
  pub name : List ℕ
  pub commands : List Command
  pub are : entries ≡ entries_by name commands

-- what was accepted of the solver's: one command
pub record AreOfSolver (entries : List Entry) : Type 0 where
  pub command : Command
  pub are : entries ≡ record { actor = Solver; command = command } ∷ []

-- a publication of one step: it has an entry, and is of one user's batch or of the solver's
pub record AreOfOneStep (entries : List Entry) : Type 0 where
  pub some : 0 < length entries
  pub by : AreOfUser entries ⊎ AreOfSolver entries

-- these entries as a publication, where there are any
abbrev pub as_publication : List Entry → List (List Entry)
as_publication [] = []
as_publication (entry ∷ more) = (entry ∷ more) ∷ []

-- the publications of a history, the oldest first: with each step those entries that the journal has more
abbrev pub publications_of : List Moment → List (List Entry)
publications_of [] = []
publications_of (moment ∷ earlier) =
    publications_of earlier ++ as_publication (drop (length (now earlier).journal) moment.after.journal)

-- the versions of publications, the oldest first: how many entries there are before each, and behind the last
abbrev pub versions_from : ℕ → List (List Entry) → List ℕ
versions_from count [] = count ∷ []
versions_from count (publication ∷ later) = count ∷ versions_from (count + length publication) later

-- the versions that a session has published once it has had these publications, the newest first
abbrev pub versions_of : List (List Entry) → List ℕ
versions_of publications = reverse (versions_from 0 publications)

-- publications that may be entered again, one after another: their entries are an accepted journal, and each is of one
-- step
pub record MayBeEntered (opening : SessionState) (publications : List (List Entry)) : Type 0 where
  pub accepted : IsAccepted opening (entries_of publications)
  pub steps : All AreOfOneStep publications
