-- A double-dummy table: a number of tricks for each declarer in each strain.
use Rattle.std.specs.Prelude.{ℕ}
use Rattle.table_terms.specs.declared.place.Place.{Place}
use Rattle.table_terms.specs.declared.place.Place.TheVariants.{North, East, South, West}
use Rattle.table_terms.specs.declared.strain.Strain.{Strain}
use Rattle.table_terms.specs.declared.strain.Strain.TheVariants.{Spades, Hearts, Diamonds, Clubs, NoTrump}
use Rattle.query_filter.specs.declared.trick_table.StrainTricks.{StrainTricks}
use Rattle.query_filter.specs.declared.trick_table.TrickTable.{TrickTable}

-- the number of a declarer
abbrev pub strain_tricks : StrainTricks → Place → ℕ
strain_tricks tricks North = tricks.north
strain_tricks tricks East = tricks.east
strain_tricks tricks South = tricks.south
strain_tricks tricks West = tricks.west

-- the number of a declarer in a strain
abbrev pub tricks_of : TrickTable → Strain → Place → ℕ
tricks_of table Spades declarer = strain_tricks table.spades declarer
tricks_of table Hearts declarer = strain_tricks table.hearts declarer
tricks_of table Diamonds declarer = strain_tricks table.diamonds declarer
tricks_of table Clubs declarer = strain_tricks table.clubs declarer
tricks_of table NoTrump declarer = strain_tricks table.no_trump declarer
