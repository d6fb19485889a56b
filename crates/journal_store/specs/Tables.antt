-- The tables of a journal's file, and what a query shows of their rows.
use Rattle.std.specs.Prelude.{ℕ, Bool, suc, true, false, List, [], ◌∷◌, Some, codes, pos}
use Rattle.sqlite.specs.Collation.TheVariants.{Binary}
use Rattle.sqlite.specs.declared.types.Value.TheVariants.{Null, Int, Text as Words, Blob as Bytes}
use Rattle.sqlite.specs.Order.{Row, column}
use Rattle.sqlite.specs.Table.{Table}
use Rattle.sqlite.specs.Schema.{Schema}
use Rattle.sqlite.specs.Kind.{Kind}
use Rattle.sqlite.specs.Kind.TheVariants.{Integer, Text, Blob}
use Rattle.sqlite_schema.specs.declared.schema.Column.{Column}

-- a column that takes values of its kind alone, in the bytes' order
abbrev pub strict_column : List ℕ → Kind → Bool → Column
strict_column name kind is_filled =
    record { name = name; kind = kind; is_strict = true; not_null = is_filled; default = Null; collation = Binary }

-- a table whose rows have a number each, and these columns after it, which are never NULL
abbrev pub numbered_table : List ℕ → ℕ → List Column → Table
numbered_table name tree others = record {
  name = name;
  tree = tree;
  columns = strict_column (codes "number") Integer false ∷ others;
  key = Some 0;
  primary = 0 ∷ [];
  uniques = [];
  orders = [];
  checks = [];
  references = [];
  computed = [];
  stamps = record { places = []; terms = []; formats = [] };
  is_counted = false;
}

abbrev pub session_columns : List Column
session_columns = strict_column (codes "object") Text true ∷ strict_column (codes "boards") Blob true ∷ []

abbrev pub entry_columns : List Column
entry_columns =
    strict_column (codes "publication") Integer true ∷ strict_column (codes "actor") Text true
    ∷ strict_column (codes "command") Text true ∷ []

abbrev pub session_table : Table
session_table = numbered_table (codes "session") 0 session_columns

abbrev pub entry_table : Table
entry_table = numbered_table (codes "entry") 1 entry_columns

abbrev pub journal_schema : Schema
journal_schema = record { tables = session_table ∷ entry_table ∷ []; indexes = []; views = [] }

-- the first table alone
abbrev pub session_schema : Schema
session_schema = record { tables = session_table ∷ []; indexes = []; views = [] }

abbrev pub no_schema : Schema
no_schema = record { tables = []; indexes = []; views = [] }

-- what a row of an entry says beside its number
pub record RowBytes : Type 0 where
  pub publication : ℕ
  pub actor : List ℕ
  pub command : List ℕ

-- a session's row as a statement writes it, and as a query shows it
abbrev pub stored_session : List ℕ → List ℕ → Row
stored_session object boards = Int (pos 1) ∷ Null ∷ Words object ∷ Bytes boards ∷ []

abbrev pub session_row : List ℕ → List ℕ → Row
session_row object boards = Int (pos 1) ∷ Words object ∷ Bytes boards ∷ []

-- an entry's row as a statement writes it, and as a query shows it
abbrev pub stored_entry : ℕ → RowBytes → Row
stored_entry number it =
    Int (pos number) ∷ Null ∷ Int (pos it.publication) ∷ Words it.actor ∷ Words it.command ∷ []

abbrev pub entry_row : ℕ → RowBytes → Row
entry_row number it = Int (pos number) ∷ Int (pos it.publication) ∷ Words it.actor ∷ Words it.command ∷ []

-- the rows of entries, numbered from a number on
abbrev pub entry_rows : ℕ → List RowBytes → List Row
entry_rows number [] = []
entry_rows number (it ∷ more) = entry_row number it ∷ entry_rows (suc number) more

-- what the queries show of a row
abbrev pub shown_session : Row → Row
shown_session row = column row 0 ∷ column row 2 ∷ column row 3 ∷ []

abbrev pub shown_entry : Row → Row
shown_entry row = column row 0 ∷ column row 2 ∷ column row 3 ∷ column row 4 ∷ []
