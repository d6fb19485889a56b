use Rattle.published_view.proofs.ToldLemmas.{told_in_the_status}
use Rattle.published_view.proofs.laws.names_are_told_in_the_status_alone.Goals as goal

pub returns : goal.returns
returns c = told_in_the_status
