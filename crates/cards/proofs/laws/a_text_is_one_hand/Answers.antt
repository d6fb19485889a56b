use Rattle.cards.proofs.HandLawsLemmas.{one_hand}
use Rattle.cards.proofs.laws.a_text_is_one_hand.Goals as goal

pub returns : goal.returns
returns c = one_hand
