use Rattle.cards.proofs.DealReadingLemmas.{deal_reads}
use Rattle.cards.proofs.laws.a_deal_reads_what_it_writes.Goals as goal

pub returns : goal.returns
returns c = deal_reads
