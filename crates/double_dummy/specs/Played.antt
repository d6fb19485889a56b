-- For private clauses: a card that was played.
use Rattle.std.specs.Prelude.{◌≡◌}
use Rattle.cards.specs.declared.card.Card.{Card}
use Rattle.cards.specs.Play.{Position, IsPosition, after}
use Rattle.double_dummy.specs.declared.card_costs.Played.{Played}
use Rattle.cards.specs.DoubleDummy.{double_dummy, cost}

-- the position after the card, what it is worth, and what the card cost
pub record IsPlayed (position : Position) (card : Card) (played : Played) : Type 0 where
  pub next : played.position ≡ after position card
  pub valid : IsPosition played.position
  pub tricks : played.tricks ≡ double_dummy played.position
  pub cost : played.cost ≡ cost position card
