use Rattle.std.proofs.Common.{map, take}
use Rattle.csv.specs.Records.{fields_of}
use Rattle.people_list.specs.People.{ArePeople}
use Rattle.people_list.proofs.reading.people_of.Given as goal

abbrev pub invariant-loop-row : goal.invariant-loop-row
invariant-loop-row l =
    ArePeople (fields_of l.columns) (map fields_of (take l.row-index l.rows)) l.people.items
