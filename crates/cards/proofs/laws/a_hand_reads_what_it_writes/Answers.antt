use Rattle.cards.proofs.HandLawsLemmas.{hand_reads}
use Rattle.cards.proofs.laws.a_hand_reads_what_it_writes.Goals as goal

pub returns : goal.returns
returns c = hand_reads
