-- What a row of the Mitchell movement says of a table and a round, and in which range its numbers are.
use Rattle.std.specs.Prelude.{◌≡◌, ℕ, ◌≤◌}
use Rattle.table_terms.specs.declared.side.Side.TheVariants.{NorthSouth, EastWest}
use Rattle.mitchell.specs.Mitchell.{MitchellSection, MitchellRow}

-- the row is what the table plays in the round
pub record IsAtTable (row : MitchellRow) (at_table in_round : ℕ) : Type 0 where
  pub table : row.table ≡ at_table
  pub round : row.round ≡ in_round

-- the rounds, tables, sets and pairs that a row of the section can have: its North-South pair has the table's number
pub record IsMitchellRow (section : MitchellSection) (row : MitchellRow) : Type 0 where
  pub from_round : 1 ≤ row.round
  pub to_round : row.round ≤ section.rounds
  pub from_table : 1 ≤ row.table
  pub to_table : row.table ≤ section.tables
  pub from_set : 1 ≤ row.set
  pub to_set : row.set ≤ section.tables
  pub north_south : row.north_south ≡ record { side = NorthSouth; number = row.table }
  pub east_west : row.east_west.side ≡ EastWest
  pub from_pair : 1 ≤ row.east_west.number
  pub to_pair : row.east_west.number ≤ section.tables
