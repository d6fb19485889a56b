use Rattle.cards.proofs.ReadBackLemmas.{hand_back}
use Rattle.cards.proofs.laws.a_written_hand_is_read_back.Goals as goal

pub returns : goal.returns
returns c = hand_back
