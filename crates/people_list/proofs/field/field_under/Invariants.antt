use Rattle.std.proofs.Common.{◌≡◌, drop}
use Rattle.csv.specs.Records.{fields_of}
use Rattle.people_list.specs.Fields.{under_column}
use Rattle.people_list.proofs.field.field_under.Given as goal

abbrev pub invariant-loop-place : goal.invariant-loop-place
invariant-loop-place l =
    under_column (drop l.place (fields_of l.columns)) (drop l.place (fields_of l.row)) l.name
    ≡ under_column (fields_of l.columns) (fields_of l.row) l.name
