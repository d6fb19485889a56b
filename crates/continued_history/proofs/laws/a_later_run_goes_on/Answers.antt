use Rattle.continued_history.proofs.JoinLemmas.{later_goes_on}
use Rattle.continued_history.proofs.laws.a_later_run_goes_on.Goals as goal

pub returns : goal.returns
returns c = later_goes_on
