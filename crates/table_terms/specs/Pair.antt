-- The pairs of a movement.
use Rattle.std.specs.Prelude.{ℕ, List, ◌++◌}
use Rattle.std.specs.Fmt.{decimal}
use Rattle.table_terms.specs.Side.{side_text}
use Rattle.table_terms.specs.declared.pair.Pair.{Pair}

-- a pair is written as its side and its number: `NS1`, `EW12`
abbrev pub pair_text : Pair → List ℕ
pair_text pair = side_text pair.side ++ decimal pair.number
