use Rattle.rbac.proofs.LawLemmas.{senior_permissions, senior_users}
use Rattle.rbac.proofs.laws.seniors_inherit.Goals as goal

pub returns-clause-permissions : goal.returns-clause-permissions
returns-clause-permissions c = senior_permissions

pub returns-clause-users : goal.returns-clause-users
returns-clause-users c = senior_users
