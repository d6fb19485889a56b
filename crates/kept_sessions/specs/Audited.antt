-- The audit that is told of a journal: a line for each entry.
use Rattle.std.specs.Prelude.{◌≡◌, ◌+◌, ℕ, List, [], ◌∷◌, ◌++◌, length}
use Rattle.sqlite.specs.Recovery.{Image}
use Rattle.sqlite.specs.State.{State}
use Rattle.session_state.specs.SessionState.{SessionState}
use Rattle.session_commands.specs.declared.entry.Entry.{Entry}
use Rattle.session_book.specs.Audit.{audit_row}
use Rattle.session_book.specs.Journal.{IsAccepted, MayFollow}
use Rattle.history.specs.Prefixes.{entries_of}
use Rattle.wire.specs.AuditText.{audit_row_text}
use Rattle.kept_sessions.specs.declared.source_fault.KeptSessionFault.{KeptSessionFault}
use Rattle.kept_sessions.specs.declared.source_fault.KeptSessionFault.TheVariants.{OutOfMemory, Unread, Unopened, Journal, NoJournal, NotAccepted, CopyExists, CopyUnwritten}
use Rattle.kept_sessions.specs.Kept.{IsKeptSession, KeepsJust}

-- the line of an entry with its number: what an audit has for it, and an LF
abbrev pub line_of_row : ℕ → Entry → List ℕ
line_of_row number entry = audit_row_text (audit_row number entry) ++ 10 ∷ []

-- the lines of entries with their numbers, of which the first is given
unfoldable pub lines_from : ℕ → List Entry → List ℕ
lines_from number [] = []
lines_from number (entry ∷ entries) = line_of_row number entry ++ lines_from (number + 1) entries

-- the text tells each entry of a journal that a session accepts, and no other
pub record TellsJournal (text : List ℕ) : Type 0 where
  pub opening : SessionState
  pub journal : List Entry
  pub accepted : IsAccepted opening journal
  pub lines : text ≡ lines_from 1 journal

-- the text tells each entry of the journal that the files held, and no other: a session is that of the journal's own
-- texts, its publications are the journal's, and it accepts their entries
pub record TellsKeptJournal (image : Image) (text : List ℕ) (s : State) : Type 0 where
  pub opening : SessionState
  pub budget : ℕ
  pub publications : List (List Entry)
  pub kept : IsKeptSession image opening [] budget publications s
  pub just : KeepsJust s publications
  pub accepted : IsAccepted opening (entries_of publications)
  pub lines : text ≡ lines_from 1 (entries_of publications)

-- the entry of this number, counted from 1, is the first of these that the session doesn't accept where it stands
pub record IsNotAccepted (opening : SessionState) (entries : List Entry) (number : ℕ) : Type 0 where
  pub entered : List Entry
  pub entry : Entry
  pub later : List Entry
  pub split : entries ≡ entered ++ entry ∷ later
  pub counted : number ≡ length entered + 1
  pub accepted : IsAccepted opening entered
  pub refused : ¬ MayFollow opening entered entry

-- why entries aren't told: one isn't accepted where it stands, or memory was refused, which says nothing of them
abbrev pub WhyNotTold : SessionState → List Entry → KeptSessionFault → Type 0
WhyNotTold opening entries OutOfMemory = Unit {0}
WhyNotTold opening entries (Unread file fault) = ⊥
WhyNotTold opening entries (Unopened fault) = ⊥
WhyNotTold opening entries (Journal fault) = ⊥
WhyNotTold opening entries NoJournal = ⊥
WhyNotTold opening entries (NotAccepted number) = IsNotAccepted opening entries number
WhyNotTold opening entries CopyExists = ⊥
WhyNotTold opening entries CopyUnwritten = ⊥
