use Rattle.std.proofs.Common.{◌≡◌, drop}
use Rattle.cards.specs.PlayedCards.{has_repeat}
use Rattle.cards.proofs.play.repeats.Given as goal

abbrev pub invariant-loop-i : goal.invariant-loop-i
invariant-loop-i l = has_repeat l.cards ≡ has_repeat (drop l.i l.cards)
