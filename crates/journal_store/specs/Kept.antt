-- When a database keeps a journal, and what adding to it does.
use Rattle.std.specs.Prelude.{IsPermutation, IsUtf8, All, map, ◌≡◌, ◌⊎◌, ◌+◌, ◌≤◌, ⊤, ℕ, false, Result, Ok, Err, List, [], ◌∷◌, ◌++◌, length, string_bytes, IsTrue}
use Rattle.sqlite.specs.Order.{Row}
use Rattle.sqlite.specs.Tree.{Trees}
use Rattle.sqlite.specs.Effect.{Database, IsDatabase}
use Rattle.sqlite.specs.declared.error.Error.{Error}
use Rattle.sqlite.specs.State.{State, HasCleanDisk, Survives}
use Rattle.journal_store.specs.declared.row_text.RowText.{RowText}
use Rattle.journal_store.specs.declared.session_text.SessionText.{SessionText}
use Rattle.journal_store.specs.declared.append_rows.AppendFault.{AppendFault}
use Rattle.journal_store.specs.declared.append_rows.AppendFault.TheVariants.{NotKept, Unsure}
use Rattle.journal_store.specs.Tables.{journal_schema, RowBytes, session_row, entry_rows, shown_session, shown_entry}

-- what a row that is to be added says
abbrev pub texts_of : RowText → RowBytes
texts_of row =
    record { publication = row.publication; actor = string_bytes row.actor; command = string_bytes row.command }

-- the row of a session's texts
abbrev pub row_of_session : SessionText → Row
row_of_session session = session_row (string_bytes session.object) session.boards.items

-- the row may stand behind one of that publication, or first, behind 0
pub record MayFollowRow (last : ℕ) (it : RowBytes) : Type 0 where
  pub counted : 1 ≤ it.publication
  pub not_before : last ≤ it.publication
  pub no_gap : it.publication ≤ last + 1
  pub actor_is_text : IsUtf8 it.actor
  pub command_is_text : IsUtf8 it.command

-- each row may stand behind the one before it
abbrev pub AreInOrder : ℕ → List RowBytes → Type 0
AreInOrder last [] = ⊤
AreInOrder last (it ∷ more) = MayFollowRow last it × AreInOrder it.publication more

-- the publication of the last row, or that of the row before them where there is none
abbrev pub last_publication : ℕ → List RowBytes → ℕ
last_publication last [] = last
last_publication last (it ∷ more) = last_publication it.publication more

-- how many entries a journal has at most
abbrev pub most_entry_rows : ℕ
most_entry_rows = 60000

-- these rows are those of a journal: publications without gaps from 1, and not too many of them
pub record AreEntries (rows : List RowBytes) : Type 0 where
  pub in_order : AreInOrder 0 rows
  pub few : length rows ≤ most_entry_rows

-- the trees obey the journal's schema; the table of entries has just these rows, numbered from 1, and that of the
-- session those
pub record AreKept (session : List Row) (rows : List RowBytes) (trees : Trees) : Type 0 where
  pub sound : IsDatabase (record { schema = journal_schema; trees = trees })
  pub session_is : IsPermutation (map shown_session (trees 0)) session
  pub entries : IsPermutation (map shown_entry (trees 1)) (entry_rows 1 rows)
  pub are_entries : AreEntries rows

-- the same of a database, with the schema
pub record Keeps (session : List Row) (rows : List RowBytes) (db : Database) : Type 0 where
  pub schema : db.schema ≡ journal_schema
  pub kept : AreKept session rows db.trees

-- inside a transaction, whatever comes of it: nothing is committed, and a crash leaves what it left before
pub record StaysInside (old new : State) : Type 0 where
  pub was_open : HasCleanDisk new → IsTrue old.in_transaction → IsTrue new.is_open → IsTrue old.is_open
  pub committed : HasCleanDisk new → IsTrue old.in_transaction → IsTrue new.is_open → new.committed ≡ old.committed
  pub survives : Survives old new (λ _. ⊥)

-- inside a transaction, rows are added behind those that the database keeps, if they are numbered on from these
pub record AddsRows (old new : State) (first : ℕ) (added : List RowBytes) : Type 0 where
  pub inside : HasCleanDisk new → IsTrue old.in_transaction → IsTrue new.in_transaction
  pub keeps : (session : List Row) (rows : List RowBytes) → HasCleanDisk new → IsTrue old.in_transaction
      → Keeps session rows old.now → first ≡ 1 + length rows → AreEntries (rows ++ added)
      → Keeps session (rows ++ added) new.now

-- open, in no transaction, and the last commit keeps just these rows, as does whatever a crash leaves
pub record Rests (session : List Row) (rows : List RowBytes) (s : State) : Type 0 where
  pub is_open : IsTrue s.is_open
  pub autocommit : s.in_transaction ≡ false
  pub now : Keeps session rows s.now
  pub committed : Keeps session rows s.committed
  pub crash : (db : Trees) → s.may_leave db → AreKept session rows db

-- the rows are one publication, the next behind those that are there
abbrev pub IsNextPublication : List RowBytes → List RowBytes → Type 0
IsNextPublication before added = All (λ it. it.publication ≡ last_publication 0 before + 1) added

-- whatever a crash leaves has just these rows, or all of those too
abbrev pub LeavesEither : List Row → List RowBytes → List RowBytes → State → Type 0
LeavesEither session before after s =
    (db : Trees) → s.may_leave db → AreKept session before db ⊎ AreKept session after db

-- what comes of adding rows, before it is known whether the database is still open
abbrev pub Adds : List Row → List RowBytes → List RowBytes → State → Result (Unit {0}) Error → Type 0
Adds session before added new (Ok _) = Rests session (before ++ added) new
Adds session before added new (Err _) =
    (IsTrue new.is_open → Rests session before new) × LeavesEither session before (before ++ added) new

-- What comes of adding a publication: its rows are there, over a crash too. Or none is, now and after a crash, and the
-- next
-- may be added. Or a crash leaves all of them or none.
abbrev pub Appends : List Row → List RowBytes → List RowBytes → State → Result (Unit {0}) AppendFault → Type 0
Appends session before added new (Ok _) = Rests session (before ++ added) new
Appends session before added new (Err NotKept) = Rests session before new
Appends session before added new (Err Unsure) = LeavesEither session before (before ++ added) new
