use Rattle.table_terms.proofs.Law2Lemmas.{one_dealer, one_marking}
use Rattle.table_terms.proofs.laws.one_dealer_and_one_marking.Goals as goal

pub returns-clause-dealer : goal.returns-clause-dealer
returns-clause-dealer c = one_dealer

pub returns-clause-marking : goal.returns-clause-marking
returns-clause-marking c = one_marking
