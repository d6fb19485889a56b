use Rattle.table_terms.proofs.PairBackLemmas.{pair_back}
use Rattle.table_terms.proofs.laws.a_written_pair_is_read_back.Goals as goal

pub returns : goal.returns
returns c = pair_back
