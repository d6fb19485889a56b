use Rattle.cards.proofs.CardBitsLemmas.{cards_of_no_bits}
use Rattle.cards.proofs.hand.Hand.new.Goals as goal

pub returns : goal.returns
returns c = cards_of_no_bits
