use Rattle.continued_history.proofs.BeginningLemmas.{same_of_one, foreknown_of_one}
use Rattle.continued_history.proofs.laws.histories_of_one_journal.Goals as goal

pub returns-clause-same : goal.returns-clause-same
returns-clause-same c = same_of_one

pub returns-clause-no_foreknowledge : goal.returns-clause-no_foreknowledge
returns-clause-no_foreknowledge c = foreknown_of_one
