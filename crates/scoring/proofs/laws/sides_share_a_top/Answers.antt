use Rattle.scoring.proofs.BoardLemmas.{units-neg}
use Rattle.scoring.proofs.laws.sides_share_a_top.Goals as goal

pub returns : goal.returns
returns c = units-neg
