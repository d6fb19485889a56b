use Rattle.cards.proofs.ReadBackLemmas.{deal_back}
use Rattle.cards.proofs.laws.a_written_deal_is_read_back.Goals as goal

pub returns : goal.returns
returns c = deal_back
