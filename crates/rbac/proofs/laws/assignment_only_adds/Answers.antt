use Rattle.rbac.proofs.LawLemmas.{still_authorized}
use Rattle.rbac.proofs.laws.assignment_only_adds.Goals as goal

pub returns : goal.returns
returns c = still_authorized
