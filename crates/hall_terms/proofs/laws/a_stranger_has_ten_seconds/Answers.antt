use Rattle.hall_terms.proofs.TimesLemmas.{stranger_late}
use Rattle.hall_terms.proofs.laws.a_stranger_has_ten_seconds.Goals as goal

pub returns : goal.returns
returns c idle at since earlier nobody = stranger_late idle at since earlier nobody
