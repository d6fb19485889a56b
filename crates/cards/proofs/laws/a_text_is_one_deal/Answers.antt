use Rattle.cards.proofs.DealReadingLemmas.{one_deal}
use Rattle.cards.proofs.laws.a_text_is_one_deal.Goals as goal

pub returns : goal.returns
returns c = one_deal
