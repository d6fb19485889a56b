use Rattle.session_text.proofs.ReadingLemmas.{written_back}
use Rattle.session_text.proofs.laws.what_is_written_is_read.Goals as goal

pub returns : goal.returns
returns c = written_back
