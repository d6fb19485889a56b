-- From one run to the next.
use Rattle.std.specs.Prelude.{◌≡◌, ◌≢◌, ◌⊎◌, ◌==◌, ℕ, true, List, [], filter}
use Rattle.sqlite.specs.Recovery.{Image}
use Rattle.sqlite.specs.Order.{Row}
use Rattle.sqlite.specs.Tree.{Trees}
use Rattle.sqlite.specs.Schema.{Schema}
use Rattle.sqlite.specs.Effect.{Database, IsDatabase}
use Rattle.sqlite.specs.State.{State}
use Rattle.sqlite.specs.Files.{HoldsDatabase, AreFoundIn}
use Rattle.journal_store.specs.declared.take_fault.TakeFault.{TakeFault}
use Rattle.journal_store.specs.Tables.{no_schema, RowBytes}
use Rattle.journal_store.specs.Kept.{AreKept, Rests}
use Rattle.journal_store.specs.Faults.{is_failure, IsUnmade}
use Rattle.journal_store.specs.Taken.{RefusesJournal, RefusesToRead}

-- the rows are those of the database that the files held, or that had no table
abbrev pub AreFound : Image → List Row → List RowBytes → Type 0
AreFound image session rows =
    (db : Trees) → HoldsDatabase image db
    → ((rows ≡ []) × IsDatabase (record { schema = no_schema; trees = db })) ⊎ AreKept session rows db

-- the journal is there, and its rows are those that were found
pub record IsTakenUp (image : Image) (session : List Row) (rows : List RowBytes) (s : State) : Type 0 where
  pub rests : Rests session rows s
  pub found : AreFound image session rows

-- the database that the files held, or an empty one where they held none
pub record IsFoundDatabase (image : Image) (db : Trees) : Type 0 where
  pub holds : (other : Trees) → HoldsDatabase image other → db ≡ other
  pub reads : AreFoundIn image db

-- the database that the files held is refused for this
pub record IsRefusedAt (image : Image) (Cause : Database → Type 0) : Type 0 where
  pub schema : Schema
  pub db : Trees
  pub found : IsFoundDatabase image db
  pub sound : IsDatabase (record { schema = schema; trees = db })
  pub cause : Cause (record { schema = schema; trees = db })

-- memory, the disk or another program is the cause, or the database that the files held
abbrev pub IsRefusedJournal : Image → List Row → TakeFault → Type 0
IsRefusedJournal image session fault =
    (is_failure fault ≡ true) ⊎ IsRefusedAt image (λ db. RefusesJournal session db fault)

-- the journal isn't made, where the files held a database with no table, or none
abbrev pub IsUnmadeAt : Image → TakeFault → Type 0
IsUnmadeAt image fault = IsRefusedAt image (λ db. IsUnmade db fault)

-- the same as `IsRefusedJournal`, where the journal of any session is read
abbrev pub IsNotRead : Image → TakeFault → Type 0
IsNotRead image fault = (is_failure fault ≡ true) ⊎ IsRefusedAt image (λ db. RefusesToRead db fault)

-- the journal was there, and its rows are those that the files held
pub record IsKeptAt (image : Image) (session : List Row) (rows : List RowBytes) (s : State) : Type 0 where
  pub rests : Rests session rows s
  pub found : (db : Trees) → HoldsDatabase image db → AreKept session rows db

-- the image holds a database, and it keeps these rows
abbrev pub HoldsRows : Image → List Row → List RowBytes → Type 0
HoldsRows image session rows = ∥ ((db : Trees) × HoldsDatabase image db × AreKept session rows db) ∥₁

-- the same, of one or the other list of rows
abbrev pub HoldsEither : Image → List Row → List RowBytes → List RowBytes → Type 0
HoldsEither image session before after =
    ∥ ((db : Trees) × HoldsDatabase image db × (AreKept session before db ⊎ AreKept session after db)) ∥₁

-- the same, before the journal is made or once it is
abbrev pub HoldsFirst : Image → List Row → Type 0
HoldsFirst image session =
    ∥ ((db : Trees) × HoldsDatabase image db
    × (IsDatabase (record { schema = no_schema; trees = db }) ⊎ AreKept session [] db)) ∥₁

-- the rows of a publication
abbrev pub rows_of_publication : ℕ → List RowBytes → List RowBytes
rows_of_publication publication rows = filter (λ it. it.publication == publication) rows

-- of each publication that has a row among those found, all rows are
abbrev pub AreWhole : List RowBytes → List RowBytes → Type 0
AreWhole all found =
    (publication : ℕ) → rows_of_publication publication found ≢ [] → rows_of_publication publication found ≡ rows_of_publication publication all
