use Rattle.continued_history.proofs.EntryLemmas.{journal_history}
use Rattle.continued_history.proofs.laws.an_accepted_journal_has_a_history.Goals as goal

pub returns : goal.returns
returns c = journal_history
