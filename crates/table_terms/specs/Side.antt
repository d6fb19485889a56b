-- The two sides at a table (Law 4).
use Rattle.std.specs.Prelude.{ℕ, List, codes}
use Rattle.table_terms.specs.declared.side.Side.{Side}
use Rattle.table_terms.specs.declared.side.Side.TheVariants.{NorthSouth, EastWest}

-- `NS`, `EW`
abbrev pub side_text : Side → List ℕ
side_text NorthSouth = codes "NS"
side_text EastWest = codes "EW"
