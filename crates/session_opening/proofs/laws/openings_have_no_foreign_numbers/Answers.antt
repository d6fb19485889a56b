use Rattle.session_opening.proofs.OwnNumberLemmas.{opening_own}
use Rattle.session_opening.proofs.laws.openings_have_no_foreign_numbers.Goals as goal

pub returns : goal.returns
returns c = opening_own
