-- The four places at a table (Law 3), who plays with whom (Law 4), and how the turn passes round it (Law 17C, Law 44).
use Rattle.std.specs.Prelude.{ℕ}
use Rattle.table_terms.specs.declared.place.Place.{Place}
use Rattle.table_terms.specs.declared.place.Place.TheVariants.{North, East, South, West}
use Rattle.table_terms.specs.declared.side.Side.{Side}
use Rattle.table_terms.specs.declared.side.Side.TheVariants.{NorthSouth, EastWest}

-- the turn passes clockwise: North, East, South, West, North
abbrev pub left_of : Place → Place
left_of North = East
left_of East = South
left_of South = West
left_of West = North

-- a place's number in turn, counted from North's 0
abbrev pub place_number : Place → ℕ
place_number North = 0
place_number East = 1
place_number South = 2
place_number West = 3

-- who sits opposite
abbrev pub partner_of : Place → Place
partner_of North = South
partner_of East = West
partner_of South = North
partner_of West = East

-- the side that a player is of
abbrev pub side_of : Place → Side
side_of North = NorthSouth
side_of East = EastWest
side_of South = NorthSouth
side_of West = EastWest

-- `N`, `E`, `S`, `W`
abbrev pub place_letter : Place → ℕ
place_letter North = 78
place_letter East = 69
place_letter South = 83
place_letter West = 87
