-- Publications that are entered again at a start, in the order in which they were published.
use Rattle.std.specs.Prelude.{◌≡◌, Some, List, [], ◌∷◌, ◌++◌}
use Rattle.session_state.specs.SessionState.{SessionState}
use Rattle.session_commands.specs.declared.entry.Entry.{Entry}
use Rattle.session_commands.specs.declared.refusal.Refusal.{Refusal}
use Rattle.session_book.specs.Journal.{refusal_after}
use Rattle.desks.specs.declared.reentry.ReentryFault.{ReentryFault}
use Rattle.desks.specs.declared.reentry.ReentryFault.TheVariants.{Refused, Empty, OutOfMemory}

-- after a journal the first of these entries joined it, and the one behind them is refused there
pub record IsRefusedAfter (opening : SessionState) (before entries : List Entry) (cause : Refusal)
    (journal : List Entry) : Type 0 where
  pub entered : List Entry
  pub entry : Entry
  pub later : List Entry
  pub split : entries ≡ entered ++ entry ∷ later
  pub joined : journal ≡ before ++ entered
  pub refused : refusal_after opening journal entry.actor entry.command ≡ Some cause

-- why these entries aren't entered again, as one publication, after a journal; and the journal that was reached
abbrev pub IsReentryFault : ReentryFault → SessionState → List Entry → List Entry → List Entry → Type 0
IsReentryFault (Refused cause) opening before entries journal = IsRefusedAfter opening before entries cause journal
IsReentryFault Empty opening before entries journal = entries ≡ []
IsReentryFault OutOfMemory opening before entries journal = Unit {0}
