use Rattle.rbac.proofs.LawLemmas.{nothing_deassigned, nothing_deleted}
use Rattle.rbac.proofs.laws.refused_changes_change_nothing.Goals as goal

pub returns-clause-role : goal.returns-clause-role
returns-clause-role c = nothing_deassigned

pub returns-clause-pair : goal.returns-clause-pair
returns-clause-pair c = nothing_deleted
