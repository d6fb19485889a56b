use Rattle.rbac.proofs.LawLemmas.{permission_exact}
use Rattle.rbac.proofs.laws.permissions_are_exact.Goals as goal

pub returns : goal.returns
returns c = permission_exact
