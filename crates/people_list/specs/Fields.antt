-- The fields of a list of people, each under the name of its column.
use Rattle.std.specs.Prelude.{ℕ, List, [], ◌∷◌, if◌then◌else◌, Option, Some, None}
use Rattle.std.specs.Str.{bytes_eq}
use Rattle.csv.specs.Records.{field_at}

-- the field that stands in a row under this name, or the empty one where there is no such column
abbrev pub under_column : List (List ℕ) → List (List ℕ) → List ℕ → List ℕ
under_column [] row name = []
under_column (column ∷ columns) [] name = []
under_column (column ∷ columns) (field ∷ row) name = if bytes_eq column name then field else under_column columns row name

-- ---- for private clauses

-- the field, where its column has this name
abbrev pub where_named : Option (List ℕ) → Option (List ℕ) → List ℕ → Option (List ℕ)
where_named None field name = None
where_named (Some column) None name = None
where_named (Some column) (Some field) name = if bytes_eq column name then Some field else None

-- the field at a place, where its column has this name
abbrev pub named_at : List (List ℕ) → List (List ℕ) → List ℕ → ℕ → Option (List ℕ)
named_at columns row name place = where_named (field_at columns place) (field_at row place) name
