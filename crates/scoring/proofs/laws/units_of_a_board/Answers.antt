use Rattle.scoring.proofs.BoardLemmas.{units-sum}
use Rattle.scoring.proofs.laws.units_of_a_board.Goals as goal

pub returns : goal.returns
returns c = units-sum
