use Rattle.denials.proofs.EvidenceLemmas.{denial_awaited, denial_own}
use Rattle.denials.proofs.laws.names_an_awaited_table.Goals as goal

pub returns-clause-awaited : goal.returns-clause-awaited
returns-clause-awaited c = denial_awaited

pub returns-clause-own : goal.returns-clause-own
returns-clause-own c = denial_own
