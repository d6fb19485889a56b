-- What taking up a journal finds, and why it is refused.
use Rattle.std.specs.Prelude.{◌≡◌, ◌≢◌, ◌⊎◌, IsPermutation, IsUtf8, map, ⊤, ℕ, false, List, [], ◌∷◌, IsTrue}
use Rattle.sqlite.specs.Order.{Row}
use Rattle.sqlite.specs.Tree.{Trees}
use Rattle.sqlite.specs.Effect.{Database, IsDatabase}
use Rattle.sqlite.specs.State.{State}
use Rattle.journal_store.specs.declared.take_fault.TakeFault.{TakeFault}
use Rattle.journal_store.specs.declared.take_fault.TakeFault.TheVariants.{Busy, Damaged, Unread, OutOfMemory, NotAJournal, OtherSession, Misnumbered}
use Rattle.journal_store.specs.Tables.{no_schema, journal_schema, RowBytes, session_row, entry_rows, shown_session, shown_entry}
use Rattle.journal_store.specs.Kept.{AreEntries, AreKept, Keeps, Rests}

-- open, in no transaction, with what the last commit left, which obeys its schema
pub record IsIdle (s : State) : Type 0 where
  pub is_open : IsTrue s.is_open
  pub autocommit : s.in_transaction ≡ false
  pub same : s.now ≡ s.committed
  pub sound : IsDatabase s.now

-- the journal is there: there was no table before, or it was there before
pub record TakesUp (session : List Row) (rows : List RowBytes) (old new : State) : Type 0 where
  pub rests : Rests session rows new
  pub found : ((old.now.schema ≡ no_schema) × (rows ≡ [])) ⊎ Keeps session rows old.now

-- Why a database isn't taken up, for each fault that says something of the journal. What memory, the disk and other
-- programs
-- do needs no cause here.
abbrev pub RefusesJournal : List Row → Database → TakeFault → Type 0
RefusesJournal session db Busy = ⊤
RefusesJournal session db Damaged = ⊤
RefusesJournal session db Unread = ⊤
RefusesJournal session db OutOfMemory = ⊤
RefusesJournal session db NotAJournal = (db.schema ≢ no_schema) × (db.schema ≢ journal_schema)
RefusesJournal session db OtherSession =
    (db.schema ≡ journal_schema) × (¬ IsPermutation (map shown_session (db.trees 0)) session)
RefusesJournal session db Misnumbered =
    (db.schema ≡ journal_schema)
    × ((rows : List RowBytes) → AreEntries rows → ¬ IsPermutation (map shown_entry (db.trees 1)) (entry_rows 1 rows))

-- What a crash leaves of a database that is taken up is what it left before; or the journal with no entry, where there
-- was
-- no table.
abbrev pub LeavesMade : List Row → State → State → Type 0
LeavesMade session old new =
    (db : Trees) → new.may_leave db
    → old.may_leave db ⊎ ((old.now.schema ≡ no_schema) × AreKept session [] db)

-- whatever a crash leaves has no table, or is the journal with no entry
abbrev pub LeavesFirst : List Row → State → Type 0
LeavesFirst session s =
    (db : Trees) → s.may_leave db
    → IsDatabase (record { schema = no_schema; trees = db }) ⊎ AreKept session [] db

-- a journal was there, and is as it was
pub record ReadsKept (session : List Row) (rows : List RowBytes) (old new : State) : Type 0 where
  pub rests : Rests session rows new
  pub kept : Keeps session rows old.now

-- why a database is read as no journal, whichever session it may be of
abbrev pub RefusesToRead : Database → TakeFault → Type 0
RefusesToRead db Busy = ⊤
RefusesToRead db Damaged = ⊤
RefusesToRead db Unread = ⊤
RefusesToRead db OutOfMemory = ⊤
RefusesToRead db NotAJournal =
    (db.schema ≢ journal_schema)
    ⊎ ((object boards : List ℕ) → IsUtf8 object
    → ¬ IsPermutation (map shown_session (db.trees 0)) (session_row object boards ∷ []))
RefusesToRead db OtherSession = ⊥
RefusesToRead db Misnumbered =
    (db.schema ≡ journal_schema)
    × ((rows : List RowBytes) → AreEntries rows → ¬ IsPermutation (map shown_entry (db.trees 1)) (entry_rows 1 rows))
