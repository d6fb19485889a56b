-- The two kinds of faults of taking up a journal, and what those come of that say nothing of its rows.
use Rattle.std.specs.Prelude.{Bool, true, false, ◌≡◌, ◌⊎◌, ◌≤◌, ⊤}
use Rattle.sqlite_disk.specs.declared.Disk.{Ghosts}
use Rattle.sqlite.specs.Recovery.{Image}
use Rattle.sqlite.specs.Tree.{Trees}
use Rattle.sqlite_trees.specs.declared.error.StoreError.{StoreError}
use Rattle.sqlite_trees.specs.declared.error.StoreError.TheVariants as store
use Rattle.sqlite.specs.Effect.{Database}
use Rattle.sqlite.specs.State.{State, store_error}
use Rattle.sqlite.specs.Files.{HoldsDatabase, IsNothing, IsFullLeft, faults_left}
use Rattle.sqlite.specs.declared.file.Leftover.{Leftover}
use Rattle.sqlite.specs.declared.error.Error.{Error}
use Rattle.sqlite.specs.declared.error.Error.TheVariants.{SqliteFailure}
use Rattle.sqlite.specs.declared.error.ErrorCode.TheVariants as code
use Rattle.journal_store.specs.Tables.{no_schema}
use Rattle.journal_store.specs.declared.take_fault.TakeFault.{TakeFault}
use Rattle.journal_store.specs.declared.take_fault.TakeFault.TheVariants.{Busy, Damaged, Unread, OutOfMemory, NotAJournal, OtherSession, Misnumbered}

-- whether it may come of want of memory, of the disk or of another program at the file, and says nothing of the journal
abbrev pub is_failure : TakeFault → Bool
is_failure Busy = true
is_failure Damaged = true
is_failure Unread = true
is_failure OutOfMemory = true
is_failure NotAJournal = false
is_failure OtherSession = false
is_failure Misnumbered = false

-- whether it is told where the two files weren't opened: for memory, since another program holds them, or since the system doesn't
-- open them
abbrev pub is_unopened : TakeFault → Bool
is_unopened Busy = true
is_unopened Damaged = false
is_unopened Unread = true
is_unopened OutOfMemory = true
is_unopened NotAJournal = false
is_unopened OtherSession = false
is_unopened Misnumbered = false

-- what an error of the database is called
abbrev pub fault_named : Error → TakeFault
fault_named (SqliteFailure code.DatabaseBusy) = Busy
fault_named (SqliteFailure code.NotADatabase) = Damaged
fault_named (SqliteFailure code.DatabaseCorrupt) = Damaged
fault_named (SqliteFailure code.OutOfMemory) = OutOfMemory
fault_named _ = Unread

-- ---- a database that is open

-- the disk has failed or refused a call since the files were opened
abbrev pub HasFailed : State → Type 0
HasFailed s = 1 ≤ s.faults

-- memory was refused, or the disk has failed
abbrev pub Excuses : State → StoreError → Type 0
Excuses s store.OutOfMemory = ⊤
Excuses s store.Io = HasFailed s
Excuses s store.Corrupt = HasFailed s
Excuses s store.Full = HasFailed s
Excuses s store.Broken = ⊥
Excuses s store.Unstorable = ⊥

-- the same of an error that a query answers
abbrev pub IsExcused : State → Error → Type 0
IsExcused s e = (cause : StoreError) × (e ≡ store_error cause) × Excuses s cause

-- what the faults come of that say nothing of the rows: memory or the disk
abbrev pub ComesOf : State → TakeFault → Type 0
ComesOf s Busy = ⊥
ComesOf s Damaged = HasFailed s
ComesOf s Unread = HasFailed s
ComesOf s OutOfMemory = ⊤
ComesOf s NotAJournal = ⊤
ComesOf s OtherSession = ⊤
ComesOf s Misnumbered = ⊤

-- the journal isn't made, where there was no table
abbrev pub IsUnmade : Database → TakeFault → Type 0
IsUnmade db fault = (fault ≡ Unread) × (db.schema ≡ no_schema)

-- ---- two files that are left

-- the files hold no database, and aren't blank
abbrev pub HoldsNone : Image → Type 0
HoldsNone image = (¬ ((db : Trees) × HoldsDatabase image db)) × (¬ IsNothing image)

module _ {D : Type 0} {g : Ghosts D} where
  -- the disk has failed or refused a call since the files were opened
  abbrev pub HasFailedSince : Leftover D g → Type 0
  HasFailedSince left = 1 ≤ faults_left left

  -- what the faults come of that say nothing of the rows, once the files were opened: memory, the disk, the limit of a file's length,
  -- or that the files hold no database
  abbrev pub LeavesFor : Image → Leftover D g → TakeFault → Type 0
  LeavesFor image left Busy = ⊥
  LeavesFor image left Damaged = HasFailedSince left ⊎ HoldsNone image
  LeavesFor image left Unread = HasFailedSince left ⊎ IsFullLeft left
  LeavesFor image left OutOfMemory = ⊤
  LeavesFor image left NotAJournal = ⊤
  LeavesFor image left OtherSession = ⊤
  LeavesFor image left Misnumbered = ⊤
