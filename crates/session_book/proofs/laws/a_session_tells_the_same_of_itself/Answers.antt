use Rattle.session_book.proofs.OwnNumberLemmas.{notices_kept}
use Rattle.session_book.proofs.laws.a_session_tells_the_same_of_itself.Goals as goal

pub returns : goal.returns
returns c = notices_kept
