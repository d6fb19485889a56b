use Rattle.journal_store.proofs.RestartLemmas.{rows_not_refused, either_not_refused, first_not_refused}
use Rattle.journal_store.proofs.laws.no_crash_is_refused.Goals as goal

pub returns-clause-rows : goal.returns-clause-rows
returns-clause-rows c = rows_not_refused

pub returns-clause-either : goal.returns-clause-either
returns-clause-either c = either_not_refused

pub returns-clause-first : goal.returns-clause-first
returns-clause-first c = first_not_refused
