use Rattle.std.proofs.Common.{◌≡◌, true}
use Rattle.std.specs.FinSet as set
use Rattle.cards.specs.declared.card.Card.{Card}
use Rattle.double_dummy.proofs.masters.fewest.Given as goal

abbrev pub invariant-loop-rest : goal.invariant-loop-rest
invariant-loop-rest l = (card : Card) → set.contains l.rest card ≡ true → set.contains l.fn.cards card ≡ true

abbrev pub decreases-loop-rest : goal.decreases-loop-rest
decreases-loop-rest l = set.len l.rest
