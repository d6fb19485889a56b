use Rattle.std.proofs.Common.{◌≡◌, true, take}
use Rattle.std.specs.FinSet as set
use Rattle.cards.specs.declared.card.Card.{Card}
use Rattle.cards.specs.HandReading.{IsHoldingText}
use Rattle.cards.proofs.hand_reading.read_holding.Given as goal

-- the hand has the cards of the letters so far, and no others
abbrev pub invariant-loop-letter : goal.invariant-loop-letter
invariant-loop-letter l = record {
  held : IsHoldingText l.hand l.suit (take l.letter-index l.letter-items);
  only : (card : Card) → set.contains l.hand card ≡ true → card.suit ≡ l.suit;
}
