use Rattle.continued_history.proofs.EntryLemmas.{entered_again}
use Rattle.continued_history.proofs.laws.publications_entered_again_are_a_history.Goals as goal

pub returns : goal.returns
returns c = entered_again
