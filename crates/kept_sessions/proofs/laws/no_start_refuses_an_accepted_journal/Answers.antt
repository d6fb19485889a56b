use Rattle.kept_sessions.proofs.FaultLemmas.{start_fails, start_fails_alone}
use Rattle.kept_sessions.proofs.laws.no_start_refuses_an_accepted_journal.Goals as goal

pub returns-clause-with_texts : goal.returns-clause-with_texts
returns-clause-with_texts g c = start_fails

pub returns-clause-alone : goal.returns-clause-alone
returns-clause-alone g c = start_fails_alone
