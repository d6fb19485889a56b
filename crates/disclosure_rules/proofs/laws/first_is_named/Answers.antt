use Rattle.disclosure_rules.proofs.FirstLemmas.{first_forbids, none_before, first_numbered, none_forbids, no_first}
use Rattle.disclosure_rules.proofs.laws.first_is_named.Goals as goal

pub returns-clause-forbids : goal.returns-clause-forbids
returns-clause-forbids c = first_forbids

pub returns-clause-least : goal.returns-clause-least
returns-clause-least c = none_before

pub returns-clause-numbered : goal.returns-clause-numbered
returns-clause-numbered c = first_numbered

pub returns-clause-none : goal.returns-clause-none
returns-clause-none c public viewer fact = (none_forbids public viewer fact, no_first public viewer fact)
