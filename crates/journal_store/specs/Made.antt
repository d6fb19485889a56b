-- What making the tables of a journal does.
use Rattle.std.specs.Prelude.{◌≡◌, ◌⊎◌, false, List, [], Result, Ok, Err, IsTrue}
use Rattle.sqlite.specs.Order.{Row}
use Rattle.sqlite.specs.Tree.{Trees}
use Rattle.sqlite.specs.Effect.{Database}
use Rattle.sqlite.specs.declared.error.Error.{Error}
use Rattle.sqlite.specs.State.{State, HasCleanDisk}
use Rattle.journal_store.specs.Tables.{no_schema, session_schema}
use Rattle.journal_store.specs.Kept.{AreKept, Keeps, Rests}

-- open, in no transaction, and there is no table
pub record IsBlank (s : State) : Type 0 where
  pub is_open : IsTrue s.is_open
  pub autocommit : s.in_transaction ≡ false
  pub now : s.now.schema ≡ no_schema
  pub committed : s.committed.schema ≡ no_schema
  pub same : s.now ≡ s.committed

-- inside a transaction
pub record MakesInside (P : Database → Type 0) (Q : Database → Type 0) (old new : State) : Type 0 where
  pub inside : HasCleanDisk new → IsTrue old.in_transaction → IsTrue new.in_transaction
  pub made : HasCleanDisk new → IsTrue old.in_transaction → P old.now → Q new.now

abbrev pub HasNone : Database → Type 0
HasNone db = db.schema ≡ no_schema

abbrev pub HasSession : Database → Type 0
HasSession db = (db.schema ≡ session_schema) × (db.trees 0 ≡ [])

abbrev pub HasBoth : Database → Type 0
HasBoth = Keeps [] []

abbrev pub MakesSession : State → State → Type 0
MakesSession = MakesInside HasNone HasSession

abbrev pub MakesEntry : State → State → Type 0
MakesEntry = MakesInside HasSession HasBoth

abbrev pub FillsSession : List Row → State → State → Type 0
FillsSession session = MakesInside HasBoth (Keeps session [])

abbrev pub MakesTables : List Row → State → State → Type 0
MakesTables session = MakesInside HasNone (Keeps session [])

-- The tables are there with the session's row, over a crash too. Or nothing is, if the database stays open; and if it
-- doesn't, a crash leaves all of it or what it left before.
abbrev pub Creates : List Row → State → State → Result (Unit {0}) Error → Type 0
Creates session old new (Ok _) = Rests session [] new
Creates session old new (Err _) = (IsTrue new.is_open → IsBlank new)
    × ((db : Trees) → new.may_leave db → old.may_leave db ⊎ AreKept session [] db)
