use Rattle.continued_history.proofs.PublicationLemmas.{batch_joins, found_joins}
use Rattle.continued_history.proofs.laws.what_joins_is_of_one_step.Goals as goal

pub returns-clause-batch : goal.returns-clause-batch
returns-clause-batch c = batch_joins

pub returns-clause-found : goal.returns-clause-found
returns-clause-found c = found_joins
