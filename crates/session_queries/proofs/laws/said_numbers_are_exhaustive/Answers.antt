use Rattle.session_queries.proofs.NumberLemmas.{analysis_own, costs_own}
use Rattle.session_queries.proofs.ParLemmas.{par_own}
use Rattle.session_queries.proofs.laws.said_numbers_are_exhaustive.Goals as goal

pub returns-clause-analysis : goal.returns-clause-analysis
returns-clause-analysis c = analysis_own

pub returns-clause-par : goal.returns-clause-par
returns-clause-par c = par_own

pub returns-clause-costs : goal.returns-clause-costs
returns-clause-costs c = costs_own
