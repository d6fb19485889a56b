use Rattle.pbn_records.proofs.GameBeforeLemmas.{taken_at, missing_at, missing_first, at_none, at_other}
use Rattle.pbn_records.proofs.laws.a_hash_takes_the_value_before.Goals as goal

pub returns-clause-taken : goal.returns-clause-taken
returns-clause-taken c = taken_at

pub returns-clause-missing : goal.returns-clause-missing
returns-clause-missing c = missing_at

pub returns-clause-first : goal.returns-clause-first
returns-clause-first c = missing_first

pub returns-clause-not_there : goal.returns-clause-not_there
returns-clause-not_there c = at_none

pub returns-clause-other : goal.returns-clause-other
returns-clause-other c = at_other
