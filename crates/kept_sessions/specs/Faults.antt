-- own: why the session of a journal isn't opened, told, reported or copied: for each fault what it says of the texts, of what the
-- files held, of the disk or of the rows that were found there. Where the files aren't opened, another program that holds them, that
-- the system doesn't open them and that there is no file are the system's word.
use Rattle.std.specs.Prelude.{◌≡◌, ◌⊎◌, ⊤, true, ℕ, List, [], ◌∷◌, map, MatchOption, Option, None}
use Rattle.sqlite.specs.Order.{Row}
use Rattle.sqlite.specs.Tree.{Trees}
use Rattle.sqlite.specs.Recovery.{Image}
use Rattle.sqlite.specs.Files.{HoldsDatabase, IsCleanLeft}
use Rattle.sqlite.specs.declared.file.Leftover.{Leftover}
use Rattle.sqlite_disk.specs.declared.Disk.{Ghosts}
use Rattle.journal_store.specs.declared.row_text.RowText.{RowText}
use Rattle.journal_store.specs.Kept.{AreKept, texts_of}
use Rattle.journal_store.specs.Restart.{AreFound}
use Rattle.journal_store.specs.Tables.{RowBytes, session_row}
use Rattle.session_state.specs.SessionState.{SessionState}
use Rattle.session_commands.specs.declared.entry.Entry.{Entry}
use Rattle.history.specs.Prefixes.{entries_of}
use Rattle.kept_entries.specs.KeptRows.{rows_of}
use Rattle.row_journal.specs.declared.journal_fault.JournalFault.{JournalFault}
use Rattle.row_journal.specs.Faults.{WhyNotTaken, WhyNotKept, WhyRowsNotRead, IsOpeningWant, IsOutage, is_file_failure, is_file_unopened}
use Rattle.kept_sessions.specs.Audited.{IsNotAccepted}
use Rattle.kept_sessions.specs.Sources.{AreOfFiles, IsSessionOf, IsUnread, WhyNoSession}
use Rattle.kept_sessions.specs.declared.source_fault.KeptSessionFault.{KeptSessionFault}
use Rattle.kept_sessions.specs.declared.source_fault.KeptSessionFault.TheVariants.{OutOfMemory, Unread, Unopened, Journal, NoJournal, NotAccepted, CopyExists, CopyUnwritten}

-- no wrong answer of the disk was taken as true, as far as the files were opened
abbrev pub AreCleanlyLeft : {D : Type 0} {g : Ghosts D} → Option (Leftover D g) → Type 0
AreCleanlyLeft left = MatchOption left ⊤ (λ files. IsCleanLeft files)

-- the database that the files held, if there was one, keeps the session of these texts and these rows
abbrev pub HeldRows : Image → List ℕ → List ℕ → List RowBytes → Type 0
HeldRows image object boards rows =
    (db : Trees) → HoldsDatabase image db → AreKept (session_row object boards ∷ []) rows db

module _ {D : Type 0} {g : Ghosts D} where
  -- the files weren't opened, for memory, another program or the system; or for this they are not opened as the journal of a session
  abbrev pub WhyFilesNotTaken : Image → List Row → Option (Leftover D g) → JournalFault → Type 0
  WhyFilesNotTaken image session left fault =
      MatchOption left (is_file_unopened fault ≡ true) (λ files. WhyNotTaken image session files fault)

  -- the same, where the journal of any session is opened
  abbrev pub WhyFilesNotKept : Image → Option (Leftover D g) → JournalFault → Type 0
  WhyFilesNotKept image left fault = MatchOption left (is_file_unopened fault ≡ true) (λ files. WhyNotKept image files fault)

-- a journal's rows aren't read for this
abbrev pub IsRowsFault : List RowText → KeptSessionFault → Type 0
IsRowsFault rows fault = (cause : JournalFault) × (fault ≡ Journal cause) × WhyRowsNotRead rows cause

-- ---- where the texts are given

-- these rows were found of the session of two texts, or none where there was no table yet; and for this they aren't read
pub record AreFoundUnread (image : Image) (object boards : List ℕ) (fault : JournalFault) : Type 0 where
  pub rows : List RowText
  pub found : AreFound image (session_row object boards ∷ []) (map texts_of rows)
  pub unread : WhyRowsNotRead rows fault

module _ {D : Type 0} {g : Ghosts D} where
  -- why no session is opened by two texts with the journal that the files held, or that is made
  abbrev pub WhyNotTakenUp : Image → List ℕ → List ℕ → Option (Leftover D g) → KeptSessionFault → Type 0
  WhyNotTakenUp image object boards left OutOfMemory = ⊤
  WhyNotTakenUp image object boards left (Unread file cause) = ⊥
  WhyNotTakenUp image object boards left (Unopened fault) = WhyNoSession object boards (Unopened fault)
  WhyNotTakenUp image object boards left (Journal fault) =
      WhyFilesNotTaken image (session_row object boards ∷ []) left fault ⊎ AreFoundUnread image object boards fault
  WhyNotTakenUp image object boards left NoJournal = ⊥
  WhyNotTakenUp image object boards left (NotAccepted number) = ⊥
  WhyNotTakenUp image object boards left CopyExists = ⊥
  WhyNotTakenUp image object boards left CopyUnwritten = ⊥

  -- the same of the texts of two files, which may be unread
  abbrev pub WhyFilesNotTakenUp : {S : Type 0} → (S → Option (List ℕ)) → Image → Option (Leftover D g) → KeptSessionFault → Type 0
  WhyFilesNotTakenUp remaining image left fault =
      IsUnread fault
      ⊎ ((object boards : List ℕ) × AreOfFiles remaining object boards × WhyNotTakenUp image object boards left fault)

-- ---- where the journal has its texts

-- the texts of the journal that the files held open no session
pub record KeepsNoSession (image : Image) (fault : KeptSessionFault) : Type 0 where
  pub object : List ℕ
  pub boards : List ℕ
  pub rows : List RowBytes
  pub held : HeldRows image object boards rows
  pub none : WhyNoSession object boards fault

-- these rows were found in the journal that the files held, and for this they aren't read
pub record AreKeptUnread (image : Image) (fault : JournalFault) : Type 0 where
  pub object : List ℕ
  pub boards : List ℕ
  pub rows : List RowText
  pub held : HeldRows image object boards (map texts_of rows)
  pub unread : WhyRowsNotRead rows fault

-- the entry of this number is the first of the journal that the files held which the session of its own texts doesn't accept
pub record KeepsNotAccepted (image : Image) (number : ℕ) : Type 0 where
  pub object : List ℕ
  pub boards : List ℕ
  pub opening : SessionState
  pub budget : ℕ
  pub publications : List (List Entry)
  pub session : IsSessionOf object boards opening [] budget
  pub held : HeldRows image object boards (rows_of publications)
  pub not : IsNotAccepted opening (entries_of publications) number

module _ {D : Type 0} {g : Ghosts D} where
  -- why the session of the journal that the files held isn't opened
  abbrev pub WhyNotReopened : Image → Option (Leftover D g) → KeptSessionFault → Type 0
  WhyNotReopened image left OutOfMemory = ⊤
  WhyNotReopened image left (Unread file cause) = ⊥
  WhyNotReopened image left (Unopened fault) = KeepsNoSession image (Unopened fault)
  WhyNotReopened image left (Journal fault) = WhyFilesNotKept image left fault ⊎ AreKeptUnread image fault
  WhyNotReopened image left NoJournal = left ≡ None
  WhyNotReopened image left (NotAccepted number) = ⊥
  WhyNotReopened image left CopyExists = ⊥
  WhyNotReopened image left CopyUnwritten = ⊥

  -- why the journal that the files held isn't told or reported: its session isn't opened, or it doesn't accept an entry
  abbrev pub WhyJournalNotTold : Image → Option (Leftover D g) → KeptSessionFault → Type 0
  WhyJournalNotTold image left OutOfMemory = ⊤
  WhyJournalNotTold image left (Unread file cause) = ⊥
  WhyJournalNotTold image left (Unopened fault) = KeepsNoSession image (Unopened fault)
  WhyJournalNotTold image left (Journal fault) = WhyFilesNotKept image left fault ⊎ AreKeptUnread image fault
  WhyJournalNotTold image left NoJournal = left ≡ None
  WhyJournalNotTold image left (NotAccepted number) = KeepsNotAccepted image number
  WhyJournalNotTold image left CopyExists = ⊥
  WhyJournalNotTold image left CopyUnwritten = ⊥

-- ---- where the journal is copied

-- memory, the disk or another program at the file is the cause that a journal isn't copied, or what is at the path of the copy
abbrev pub IsFailedCopy : KeptSessionFault → Type 0
IsFailedCopy OutOfMemory = ⊤
IsFailedCopy (Unread file cause) = ⊥
IsFailedCopy (Unopened fault) = ⊥
IsFailedCopy (Journal fault) = is_file_failure fault ≡ true
IsFailedCopy NoJournal = ⊥
IsFailedCopy (NotAccepted number) = ⊥
IsFailedCopy CopyExists = ⊤
IsFailedCopy CopyUnwritten = ⊤

module _ {D : Type 0} {g : Ghosts D} where
  -- why the journal that the files held isn't copied
  abbrev pub WhyNotCopied : Image → Option (Leftover D g) → KeptSessionFault → Type 0
  WhyNotCopied image left OutOfMemory = ⊤
  WhyNotCopied image left (Unread file cause) = ⊥
  WhyNotCopied image left (Unopened fault) = ⊥
  WhyNotCopied image left (Journal fault) =
      MatchOption left (is_file_failure fault ≡ true) (λ files. WhyNotKept image files fault)
  WhyNotCopied image left NoJournal = left ≡ None
  WhyNotCopied image left (NotAccepted number) = ⊥
  WhyNotCopied image left CopyExists = ⊤
  WhyNotCopied image left CopyUnwritten = ⊤

-- ---- where the files hold a journal that is accepted

module _ {D : Type 0} {g : Ghosts D} where
  -- Want of memory or of visits, or a disk that has failed since the files were opened, or a file that is as long as one can be. Where
  -- they weren't opened, memory, another program that holds them, or the system.
  abbrev pub IsStartFailure : Option (Leftover D g) → KeptSessionFault → Type 0
  IsStartFailure left OutOfMemory = ⊤
  IsStartFailure left (Unread file cause) = ⊥
  IsStartFailure left (Unopened fault) = ⊥
  IsStartFailure left (Journal fault) =
      MatchOption left (is_file_unopened fault ≡ true) (λ files. IsOutage files fault) ⊎ IsOpeningWant fault
  IsStartFailure left NoJournal = ⊥
  IsStartFailure left (NotAccepted number) = ⊥
  IsStartFailure left CopyExists = ⊥
  IsStartFailure left CopyUnwritten = ⊥
