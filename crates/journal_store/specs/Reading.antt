-- What the reader takes for the rows of entries, and that it changes nothing.
use Rattle.std.specs.Prelude.{◌≡◌, ◌≢◌, ℕ, None, IsTrue}
use Rattle.sqlite.specs.Order.{Row}
use Rattle.sqlite.specs.State.{State, Survives}
use Rattle.journal_store.specs.Tables.{journal_schema, RowBytes, entry_row}
use Rattle.journal_store.specs.Kept.{MayFollowRow}

-- the row has that number, and may stand behind one of that publication
pub record IsRowOf (number last : ℕ) (it : RowBytes) (row : Row) : Type 0 where
  pub is : row ≡ entry_row number it
  pub follows : MayFollowRow last it

-- a crash leaves what it left before, where the schema is the journal's
abbrev pub OnlyLooks : State → State → Type 0
OnlyLooks old new = Survives old new (λ _. old.now.schema ≢ journal_schema)

-- open, with the journal's schema and no limit on the steps of a query
pub record MayBeAsked (s : State) : Type 0 where
  pub is_open : IsTrue s.is_open
  pub journal : s.now.schema ≡ journal_schema
  pub unlimited : s.step_limit ≡ None
