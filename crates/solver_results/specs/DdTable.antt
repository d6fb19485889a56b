-- A double-dummy table: the tricks of each declarer in each strain.
use Rattle.std.specs.Prelude.{◌≡◌, ℕ}
use Rattle.table_terms.specs.declared.place.Place.{Place}
use Rattle.table_terms.specs.declared.place.Place.TheVariants.{North, East, South, West}
use Rattle.table_terms.specs.declared.strain.Strain.{Strain}
use Rattle.cards.specs.Hands.{Hands}
use Rattle.solver_results.specs.declared.dd_table.DeclarerTricks.{DeclarerTricks}
use Rattle.cards.specs.DoubleDummy.{declarer_tricks}

-- the tricks of the four declarers in a strain
abbrev pub tricks_in : Hands → Strain → DeclarerTricks
tricks_in hands strain = record {
  north = declarer_tricks hands strain North;
  east = declarer_tricks hands strain East;
  south = declarer_tricks hands strain South;
  west = declarer_tricks hands strain West;
}

-- the four numbers are the deal's in this strain
abbrev pub IsTricksIn : Hands → Strain → DeclarerTricks → Type 0
IsTricksIn hands strain tricks = tricks ≡ tricks_in hands strain

-- ---- for private clauses

-- the number of a declarer
abbrev pub tricks_by : DeclarerTricks → Place → ℕ
tricks_by tricks North = tricks.north
tricks_by tricks East = tricks.east
tricks_by tricks South = tricks.south
tricks_by tricks West = tricks.west
