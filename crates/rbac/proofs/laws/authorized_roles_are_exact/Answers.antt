use Rattle.rbac.proofs.LawLemmas.{authorized_roles_exact, authorized_alone}
use Rattle.rbac.proofs.laws.authorized_roles_are_exact.Goals as goal

pub returns-clause-exact : goal.returns-clause-exact
returns-clause-exact c = authorized_roles_exact

pub returns-clause-alone : goal.returns-clause-alone
returns-clause-alone c = authorized_alone
