-- For private clauses: four hands on their way to a deal, as what stands behind `Deal::new` and a deal's reading says.
use Rattle.table_terms.specs.declared.place.Place.{Place}
use Rattle.table_terms.specs.declared.place.Place.TheVariants.{North, East, South, West}
use Rattle.cards.specs.Cards.{Cards, AreDisjoint}
use Rattle.cards.specs.Hands.{Hands}

-- the six pairs of players
pub record NoTwoShare (hands : Hands) : Type 0 where
  pub north_east : AreDisjoint hands.north hands.east
  pub north_south : AreDisjoint hands.north hands.south
  pub north_west : AreDisjoint hands.north hands.west
  pub east_south : AreDisjoint hands.east hands.south
  pub east_west : AreDisjoint hands.east hands.west
  pub south_west : AreDisjoint hands.south hands.west

-- the four hands that a player and those clockwise from there hold
abbrev pub clockwise_from : Place → Cards → Cards → Cards → Cards → Hands
clockwise_from North own left opposite right = record { north = own; east = left; south = opposite; west = right }
clockwise_from East own left opposite right = record { north = right; east = own; south = left; west = opposite }
clockwise_from South own left opposite right = record { north = opposite; east = right; south = own; west = left }
clockwise_from West own left opposite right = record { north = left; east = opposite; south = right; west = own }
