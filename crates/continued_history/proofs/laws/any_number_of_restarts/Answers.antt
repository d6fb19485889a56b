use Rattle.continued_history.proofs.RunLemmas.{runs_are_one}
use Rattle.continued_history.proofs.laws.any_number_of_restarts.Goals as goal

pub returns : goal.returns
returns c = runs_are_one
