-- What a session is opened from.
use Rattle.std.specs.Prelude.{◌≡◌, ◌<◌, ◌≤◌, ◌⊎◌, ℕ, Bool, true, false, Option, List, [], Some, IfSome, length}
use Rattle.session_state.specs.SessionState.{SessionState}
use Rattle.session_commands.specs.declared.entry.Entry.{Entry}
use Rattle.opened_session.specs.Opened.{OpensWith, OpensNoneWith, GivesBudget, is_want_of_memory}
use Rattle.opened_session.specs.declared.opening_fault.OpeningFault.{OpeningFault}
use Rattle.operator_lines.specs.declared.file_fault.FileFault.TheVariants.{TooLong}
use Rattle.kept_sessions.specs.declared.source_texts.TheConstants.{MOST_FILE_BYTES}
use Rattle.kept_sessions.specs.declared.source_fault.SessionFile.{SessionFile}
use Rattle.kept_sessions.specs.declared.source_fault.KeptSessionFault.{KeptSessionFault}
use Rattle.kept_sessions.specs.declared.source_fault.KeptSessionFault.TheVariants.{OutOfMemory, Unread, Unopened, Journal, NoJournal, NotAccepted, CopyExists, CopyUnwritten}

-- own: how many bytes a file has at most
abbrev pub most_file_bytes : ℕ
most_file_bytes = MOST_FILE_BYTES

-- the session is the one that a session object opens with the boards beside it, with the visits that the object gives,
-- and nothing is entered in it
pub record IsSessionOf (object boards : List ℕ) (opening : SessionState) (journal : List Entry) (budget : ℕ) : Type 0 where
  pub opens : OpensWith (Some boards) object opening
  pub gives : GivesBudget (Some boards) object budget
  pub empty : journal ≡ []

-- some reader gave all of this text
abbrev pub IsAllOf : {S : Type 0} → (S → Option (List ℕ)) → List ℕ → Type 0
IsAllOf {S} remaining text = (reader : S) × IfSome (remaining reader) (λ all. text ≡ all)

-- two files gave all of these texts, and of no more bytes than a file has at most
pub record AreOfFiles {S : Type 0} (remaining : S → Option (List ℕ)) (object boards : List ℕ) : Type 0 where
  pub object_whole : IsAllOf remaining object
  pub boards_whole : IsAllOf remaining boards
  pub object_few : length object ≤ most_file_bytes
  pub boards_few : length boards ≤ most_file_bytes

-- why two texts open no session: for each fault what the session object's own opening says of them, and want of memory where
-- that says so
abbrev pub WhyNoSession : List ℕ → List ℕ → KeptSessionFault → Type 0
WhyNoSession object boards OutOfMemory =
    (fault : OpeningFault) × (is_want_of_memory fault ≡ true) × OpensNoneWith (Some boards) fault object
WhyNoSession object boards (Unread file fault) = ⊥
WhyNoSession object boards (Unopened fault) =
    (is_want_of_memory fault ≡ false) × OpensNoneWith (Some boards) fault object
WhyNoSession object boards (Journal fault) = ⊥
WhyNoSession object boards NoJournal = ⊥
WhyNoSession object boards (NotAccepted number) = ⊥
WhyNoSession object boards CopyExists = ⊥
WhyNoSession object boards CopyUnwritten = ⊥

-- own: a file isn't read, or memory is refused
abbrev pub IsUnread : KeptSessionFault → Type 0
IsUnread OutOfMemory = Unit {0}
IsUnread (Unread file fault) = Unit {0}
IsUnread (Unopened fault) = ⊥
IsUnread (Journal fault) = ⊥
IsUnread NoJournal = ⊥
IsUnread (NotAccepted number) = ⊥
IsUnread CopyExists = ⊥
IsUnread CopyUnwritten = ⊥

-- why two files open no session: one isn't read, or the texts that they gave open none
abbrev pub WhyFilesOpenNone : {S : Type 0} → (S → Option (List ℕ)) → KeptSessionFault → Type 0
WhyFilesOpenNone remaining fault =
    IsUnread fault ⊎ ((object boards : List ℕ) × AreOfFiles remaining object boards × WhyNoSession object boards fault)

-- own: the fault is one of a journal or of its copy, which is named also where the status is 3
abbrev pub is_of_a_journal : KeptSessionFault → Bool
is_of_a_journal (Journal fault) = true
is_of_a_journal NoJournal = true
is_of_a_journal CopyUnwritten = true
is_of_a_journal _ = false

-- the fault is want of memory, or one of this file
abbrev pub IsFaultOfFile : SessionFile → KeptSessionFault → Type 0
IsFaultOfFile file OutOfMemory = Unit {0}
IsFaultOfFile file (Unread named fault) = named ≡ file
IsFaultOfFile file (Unopened fault) = ⊥
IsFaultOfFile file (Journal fault) = ⊥
IsFaultOfFile file NoJournal = ⊥
IsFaultOfFile file (NotAccepted number) = ⊥
IsFaultOfFile file CopyExists = ⊥
IsFaultOfFile file CopyUnwritten = ⊥

-- a file that is called too long has more bytes than are read
abbrev pub SaysTooLong : SessionFile → KeptSessionFault → Option (List ℕ) → Type 0
SaysTooLong file fault known = fault ≡ Unread file TooLong → IfSome known (λ all. most_file_bytes < length all)
