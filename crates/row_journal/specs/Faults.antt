-- own: why a journal isn't opened: for each fault what it says of the file, of the disk or of the rows. Where the two files aren't
-- opened that is for memory, since another program holds them, or since the system doesn't open them.
use Rattle.std.specs.Prelude.{Bool, true, false, ⊤, ◌≡◌, ◌⊎◌, List}
use Rattle.sqlite_disk.specs.declared.Disk.{Ghosts}
use Rattle.sqlite.specs.Files.{IsFullLeft}
use Rattle.sqlite.specs.declared.file.Leftover.{Leftover}
use Rattle.sqlite.specs.Order.{Row}
use Rattle.sqlite.specs.Recovery.{Image}
use Rattle.journal_store.specs.declared.row_text.RowText.{RowText}
use Rattle.journal_store.specs.Faults.{HasFailedSince, HoldsNone}
use Rattle.journal_store.specs.Made.{HasNone}
use Rattle.journal_store.specs.Restart.{IsRefusedAt}
use Rattle.journal_store.specs.Taken.{RefusesJournal, RefusesToRead}
use Rattle.journal_store.specs.declared.take_fault.TakeFault.{TakeFault}
use Rattle.journal_store.specs.declared.take_fault.TakeFault.TheVariants as file
use Rattle.kept_entries.specs.declared.read_fault.RowFault.{RowFault}
use Rattle.kept_entries.specs.declared.read_fault.RowFault.TheVariants as rows
use Rattle.kept_entries.specs.RowTexts.{WhyNotRead}
use Rattle.row_journal.specs.declared.journal_fault.JournalFault.{JournalFault}
use Rattle.row_journal.specs.declared.journal_fault.JournalFault.TheVariants.{OutOfMemory, Busy, Damaged, Unread, NotAJournal, OtherSession, Misnumbered, Unreadable, Unsolved}

-- what a fault of the file is called
abbrev pub file_fault : TakeFault → JournalFault
file_fault file.Busy = Busy
file_fault file.Damaged = Damaged
file_fault file.Unread = Unread
file_fault file.OutOfMemory = OutOfMemory
file_fault file.NotAJournal = NotAJournal
file_fault file.OtherSession = OtherSession
file_fault file.Misnumbered = Misnumbered

-- what a fault of the rows is called
abbrev pub rows_fault : RowFault → JournalFault
rows_fault rows.OutOfMemory = OutOfMemory
rows_fault rows.Misnumbered = Misnumbered
rows_fault (rows.Unreadable number) = Unreadable number
rows_fault (rows.Unsolved number) = Unsolved number

-- want of memory, or of visits
abbrev pub IsOpeningWant : JournalFault → Type 0
IsOpeningWant OutOfMemory = Unit {0}
IsOpeningWant Busy = ⊥
IsOpeningWant Damaged = ⊥
IsOpeningWant Unread = ⊥
IsOpeningWant NotAJournal = ⊥
IsOpeningWant OtherSession = ⊥
IsOpeningWant Misnumbered = ⊥
IsOpeningWant (Unreadable number) = ⊥
IsOpeningWant (Unsolved number) = Unit {0}

-- whether it may come of want of memory, of the disk or of another program at the file
abbrev pub is_file_failure : JournalFault → Bool
is_file_failure OutOfMemory = true
is_file_failure Busy = true
is_file_failure Damaged = true
is_file_failure Unread = true
is_file_failure NotAJournal = false
is_file_failure OtherSession = false
is_file_failure Misnumbered = false
is_file_failure (Unreadable number) = false
is_file_failure (Unsolved number) = false

-- whether it is told where the two files weren't opened
abbrev pub is_file_unopened : JournalFault → Bool
is_file_unopened OutOfMemory = true
is_file_unopened Busy = true
is_file_unopened Damaged = false
is_file_unopened Unread = true
is_file_unopened NotAJournal = false
is_file_unopened OtherSession = false
is_file_unopened Misnumbered = false
is_file_unopened (Unreadable number) = false
is_file_unopened (Unsolved number) = false

module _ {D : Type 0} {g : Ghosts D} where
  -- why the files are not opened as the journal of a session, by what is left of them and by the database that they held. `Unread`
  -- also says that the journal isn't made, where there was no table.
  abbrev pub WhyNotTaken : Image → List Row → Leftover D g → JournalFault → Type 0
  WhyNotTaken image session left OutOfMemory = ⊤
  WhyNotTaken image session left Busy = ⊥
  WhyNotTaken image session left Damaged = HasFailedSince left ⊎ HoldsNone image
  WhyNotTaken image session left Unread = HasFailedSince left ⊎ (IsFullLeft left ⊎ IsRefusedAt image HasNone)
  WhyNotTaken image session left NotAJournal = IsRefusedAt image (λ db. RefusesJournal session db file.NotAJournal)
  WhyNotTaken image session left OtherSession = IsRefusedAt image (λ db. RefusesJournal session db file.OtherSession)
  WhyNotTaken image session left Misnumbered = IsRefusedAt image (λ db. RefusesJournal session db file.Misnumbered)
  WhyNotTaken image session left (Unreadable number) = ⊥
  WhyNotTaken image session left (Unsolved number) = ⊥

  -- the same, where the journal of any session is opened, and none is made
  abbrev pub WhyNotKept : Image → Leftover D g → JournalFault → Type 0
  WhyNotKept image left OutOfMemory = ⊤
  WhyNotKept image left Busy = ⊥
  WhyNotKept image left Damaged = HasFailedSince left ⊎ HoldsNone image
  WhyNotKept image left Unread = HasFailedSince left ⊎ IsFullLeft left
  WhyNotKept image left NotAJournal = IsRefusedAt image (λ db. RefusesToRead db file.NotAJournal)
  WhyNotKept image left OtherSession = ⊥
  WhyNotKept image left Misnumbered = IsRefusedAt image (λ db. RefusesToRead db file.Misnumbered)
  WhyNotKept image left (Unreadable number) = ⊥
  WhyNotKept image left (Unsolved number) = ⊥

  -- memory was refused, the disk has failed since the files were opened, or a file is as long as one can be
  abbrev pub IsOutage : Leftover D g → JournalFault → Type 0
  IsOutage left fault = (fault ≡ OutOfMemory) ⊎ (HasFailedSince left ⊎ IsFullLeft left)

-- why the rows of a journal that is open are not read
abbrev pub WhyRowsNotRead : List RowText → JournalFault → Type 0
WhyRowsNotRead found OutOfMemory = ⊤
WhyRowsNotRead found Busy = ⊥
WhyRowsNotRead found Damaged = ⊥
WhyRowsNotRead found Unread = ⊥
WhyRowsNotRead found NotAJournal = ⊥
WhyRowsNotRead found OtherSession = ⊥
WhyRowsNotRead found Misnumbered = WhyNotRead found rows.Misnumbered
WhyRowsNotRead found (Unreadable number) = WhyNotRead found (rows.Unreadable number)
WhyRowsNotRead found (Unsolved number) = WhyNotRead found (rows.Unsolved number)
