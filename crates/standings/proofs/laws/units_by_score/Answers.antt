use Rattle.standings.proofs.UnitsLemmas.{units_by_score}
use Rattle.standings.proofs.laws.units_by_score.Goals as goal

pub returns : goal.returns
returns c = units_by_score
