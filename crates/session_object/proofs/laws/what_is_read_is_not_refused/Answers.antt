use Rattle.session_object.proofs.ExclusionLemmas.{not_refused}
use Rattle.session_object.proofs.laws.what_is_read_is_not_refused.Goals as goal

pub returns : goal.returns
returns c = not_refused
