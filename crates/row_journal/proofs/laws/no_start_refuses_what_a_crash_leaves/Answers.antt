use Rattle.row_journal.proofs.FaultLemmas.{not_refused, not_refused_alone, accepted_want}
use Rattle.row_journal.proofs.laws.no_start_refuses_what_a_crash_leaves.Goals as goal

pub returns-clause-opened : goal.returns-clause-opened
returns-clause-opened g c = not_refused

pub returns-clause-alone : goal.returns-clause-alone
returns-clause-alone g c = not_refused_alone

pub returns-clause-read : goal.returns-clause-read
returns-clause-read g c = accepted_want
