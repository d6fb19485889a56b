use Rattle.par.proofs.DoublingLemmas.{no_more_undoubled, no_more_doubled}
use Rattle.par.proofs.laws.doubling_is_for_the_best.Goals as goal

pub returns-clause-undoubled : goal.returns-clause-undoubled
returns-clause-undoubled c = no_more_undoubled

pub returns-clause-doubled : goal.returns-clause-doubled
returns-clause-doubled c = no_more_doubled
