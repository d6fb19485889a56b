-- A position, by what is stored of it.
use Rattle.cards.specs.declared.position.Position.TheInside.{Inside}
use Rattle.cards.specs.Play.{Position}
use Rattle.cards.specs.Trick.{cards_in}

abbrev pub position_of : Inside → Position
position_of p = record {
  hands = record { north = p.north; east = p.east; south = p.south; west = p.west };
  strain = p.strain;
  leader = p.leader;
  table = cards_in p.trick;
}
