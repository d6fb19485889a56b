use Rattle.session_object.proofs.ReadingLemmas.{one_text}
use Rattle.session_object.proofs.laws.a_session_is_read_in_one_way.Goals as goal

pub returns : goal.returns
returns c = one_text
