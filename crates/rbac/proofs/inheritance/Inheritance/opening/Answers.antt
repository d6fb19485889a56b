use Rattle.std.proofs.Common.{sym, ap}
use Rattle.rbac.specs.Inheritance.{opening_pairs}
use Rattle.rbac.proofs.inheritance.Inheritance.opening.Goals as goal

-- the list is what the rows tell, by the edition
pub returns-in-First : goal.returns-in-First
unfolding opening_pairs
returns-in-First c = sym (ap opening_pairs c.in-First.is)

pub returns-in-Second : goal.returns-in-Second
unfolding opening_pairs
returns-in-Second c = sym (ap opening_pairs c.in-Second.is)
