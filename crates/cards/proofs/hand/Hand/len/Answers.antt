use Rattle.std.proofs.Common.{sym, ap, ◌∙◌}
use Rattle.std.proofs.lemmas.Nat.{ones-le}
use Rattle.std.specs.FinSet as set
use Rattle.cards.proofs.CardBitsLemmas.{len-cards_of_bits}
use Rattle.cards.proofs.hand.Hand.len.Goals as goal

pub returns-clause-cards : goal.returns-clause-cards
returns-clause-cards c = sym (len-cards_of_bits c.self.inside.bits c.self.invariant) ∙ ap set.len c.self.view_is

pub returns-clause-few : goal.returns-clause-few
returns-clause-few c = ones-le 52 c.self.inside.bits c.self.invariant
