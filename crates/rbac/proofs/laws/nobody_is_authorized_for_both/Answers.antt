use Rattle.rbac.proofs.LawLemmas.{not_both}
use Rattle.rbac.proofs.laws.nobody_is_authorized_for_both.Goals as goal

pub returns : goal.returns
returns c = not_both
