use Rattle.kept_entries.proofs.AcceptedLemmas.{entry_readable, journal_readable}
use Rattle.kept_entries.proofs.laws.what_is_accepted_is_readable.Goals as goal

pub returns-clause-entry : goal.returns-clause-entry
returns-clause-entry c = entry_readable

pub returns-clause-journal : goal.returns-clause-journal
returns-clause-journal c = journal_readable
