use Rattle.continued_history.proofs.StartLemmas.{start_from_published, start_from_one_more}
use Rattle.continued_history.proofs.laws.a_start_may_follow.Goals as goal

pub returns-clause-published : goal.returns-clause-published
returns-clause-published c = start_from_published

pub returns-clause-one_more : goal.returns-clause-one_more
returns-clause-one_more c = start_from_one_more
