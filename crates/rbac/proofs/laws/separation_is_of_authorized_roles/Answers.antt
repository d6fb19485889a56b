use Rattle.rbac.proofs.LawLemmas.{assigned_apart, assigned_is_not_enough}
use Rattle.rbac.proofs.laws.separation_is_of_authorized_roles.Goals as goal

pub returns-clause-assigned : goal.returns-clause-assigned
returns-clause-assigned c = assigned_apart

pub returns-clause-not_enough : goal.returns-clause-not_enough
returns-clause-not_enough c = assigned_is_not_enough
